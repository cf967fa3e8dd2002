use Rattle.std.proofs.Common.{◌≡◌, ◌<◌, ◌∙◌, Bool, List, true, Some, length, replicate, slice_get, ap, subst, arith, rules}
use Rattle.lft_lists.proofs.Places.{get_same, get_there}
use Rattle.lft_model.proofs.Places.{slice_get_within}
use Rattle.lft_monitor.proofs.kept.CarriedWrites.new.Goals as goal

pub returns : goal.returns
returns c =
    let program = c.args.program.now in
    let all = c.in_ok-all.all.items in
    let same : all ≡ replicate c.ports.result true = search rules in
    let count : c.ports.result ≡ length program.ports = c.ports.ensures.count in
    let long : length all ≡ length program.ports = search rules in
    record {
      furthest = record {
        as_long = c.in_ok-furthest.ensures.as_long;
        each = λ p port passes is.
            let within : p < length all = let l = slice_get_within program.ports p port is in omega (arith, l, long) in
            let x = get_there all p within in
            let e : x.0 ≡ true = get_same c.ports.result p true x.0 (subst (λ (bs : List Bool). slice_get bs p ≡ Some x.0) same x.1) in
            c.in_ok-furthest.ensures.each p port (ap (λ (bs : List Bool). slice_get bs p) c.as_slice.ensures.value ∙ x.1 ∙ ap Some e) is;
      };
      heard = record {
        as_long = c.in_ok-heard.ensures.as_long;
        each = λ p port read is. c.in_ok-heard.ensures.each p port (ap (λ (bs : List Bool). slice_get bs p) c.as_slice-2.ensures.value ∙ c.in_ok-read.ensures.read p (slice_get_within program.ports p port is) ∙ ap Some read) is;
      };
    }
