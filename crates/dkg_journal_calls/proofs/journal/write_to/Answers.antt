use Rattle.std.proofs.Common.{sym, ◌∙◌, ap, arith}
use Rattle.std.specs.Prelude.{option_map}
use Rattle.std.specs.FinMap.{get}
use Rattle.dkg_journal.specs.Names.{Files}
use Rattle.dkg_journal_calls.proofs.journal.write_to.Goals as goal

pub write_at-requires : goal.write_at-requires
write_at-requires g c = λ tells. record {
  bytes = c.in-Some.old.items;
  there = ap (λ (f : Files). get f c.args.name) c.in_ok-read.ensures.same.same_files ∙ sym (c.in_ok-read.ensures.bytes tells) ∙ ap (λ o. option_map (λ v. v.items) o) c.in-Some.is;
  so = omega (arith, c.if-place-len.true, c.len.ensures);
}
