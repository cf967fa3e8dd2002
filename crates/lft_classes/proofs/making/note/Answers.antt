use Rattle.std.proofs.Common.{◌<◌, inl, inr, length, Some, sym, arith}
use Rattle.lft_lists.proofs.Places.{get_write_cases, Some_same}
use Rattle.lft_classes.proofs.making.note.Goals as goal

pub returns-then-class-len : goal.returns-then-class-len
returns-then-class-len c r s e =
    let within : c.args.class < length c.args.known.now.items = omega arith in
    elim (get_write_cases c.args.known.now.items c.args.class r (Some c.args.shape) (Some s) within e) [ inl this ↦ inr (this.0, sym (Some_same c.args.shape s this.1)) | inr other ↦ inl other.1 ]
