use Rattle.std.proofs.Common.{◌++◌, ap, ◌∙◌, codes, string_bytes}
use Rattle.lft_ir.{specs.Words.Words.{port_words, reaction_words}, proofs.WordsLemmas.Steps.also}
use Rattle.lft_report.specs.Orders.{origin_of}
use Rattle.lft_report.proofs.orders.push_feeds.Goals as goal

pub returns : goal.returns
returns c = also _ _ _ (codes "    " ++ reaction_words c.args.program.now c.args.writer ++ codes " before " ++ reaction_words c.args.program.now c.args.reader ++ codes ": may write " ++ port_words c.args.program.now (origin_of c.args.program.now c.args.port) ++ codes " --> " ++ port_words c.args.program.now c.args.port) (codes "\n") (also _ _ _ (codes "    " ++ reaction_words c.args.program.now c.args.writer ++ codes " before " ++ reaction_words c.args.program.now c.args.reader ++ codes ": may write " ++ port_words c.args.program.now (origin_of c.args.program.now c.args.port) ++ codes " --> ") (port_words c.args.program.now c.args.port) (also _ _ _ (codes "    " ++ reaction_words c.args.program.now c.args.writer ++ codes " before " ++ reaction_words c.args.program.now c.args.reader ++ codes ": may write " ++ port_words c.args.program.now (origin_of c.args.program.now c.args.port)) (codes " --> ") (also _ _ _ (codes "    " ++ reaction_words c.args.program.now c.args.writer ++ codes " before " ++ reaction_words c.args.program.now c.args.reader ++ codes ": may write ") (port_words c.args.program.now (origin_of c.args.program.now c.args.port)) (also _ _ _ (codes "    " ++ reaction_words c.args.program.now c.args.writer ++ codes " before " ++ reaction_words c.args.program.now c.args.reader) (codes ": may write ") (also _ _ _ (codes "    " ++ reaction_words c.args.program.now c.args.writer ++ codes " before ") (reaction_words c.args.program.now c.args.reader) (also _ _ _ (codes "    " ++ reaction_words c.args.program.now c.args.writer) (codes " before ") (also _ _ _ (codes "    ") (reaction_words c.args.program.now c.args.writer) (c.in_ok-push_str.ensures.bytes) (c.in_ok-push_reaction.ensures)) (c.in_ok-push_str-2.ensures.bytes)) (c.in_ok-push_reaction-2.ensures)) (c.in_ok-push_str-3.ensures.bytes)) (c.in_ok-push_port.ensures ∙ ap (λ n. string_bytes c.push_str-3.new.self ++ port_words c.args.program.now n) c.origin.ensures)) (c.in_ok-push_str-4.ensures.bytes)) (c.in_ok-push_port-2.ensures)) (c.in_ok-push_str-5.ensures.bytes)
