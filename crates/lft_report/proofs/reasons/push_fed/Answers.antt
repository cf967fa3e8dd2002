use Rattle.std.proofs.Common.{◌++◌, codes}
use Rattle.lft_ir.{specs.Words.Words.port_words, proofs.WordsLemmas.Steps.also}
use Rattle.lft_report.proofs.reasons.push_fed.Goals as goal

pub returns : goal.returns
returns c = also _ _ _ ((((codes "  ") ++ (port_words c.args.program.now c.args.port)) ++ (codes " is fed by ")) ++ (port_words c.args.program.now c.args.origin)) (codes ": a write names that.\n") (also _ _ _ (((codes "  ") ++ (port_words c.args.program.now c.args.port)) ++ (codes " is fed by ")) (port_words c.args.program.now c.args.origin) (also _ _ _ ((codes "  ") ++ (port_words c.args.program.now c.args.port)) (codes " is fed by ") (also _ _ _ (codes "  ") (port_words c.args.program.now c.args.port) c.in_ok-push_str.ensures.bytes c.in_ok-push_port.ensures) c.in_ok-push_str-2.ensures.bytes) c.in_ok-push_port-2.ensures) c.in_ok-push_str-3.ensures.bytes
