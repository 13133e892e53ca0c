use Rattle.std.proofs.Common.{length, sym, ◌∙◌, ap, subst, ℕ, map}
use Rattle.dkg_journal.specs.Kept.{AreWithin}
use Rattle.dkg_journal.proofs.Loose.{length-restored}
use Rattle.dkg_journal.proofs.Undone.{undone, popped, rolled_last}
use Rattle.dkg_journal.proofs.file.roll_back.Goals as goal

pub restore-requires : goal.restore-requires
restore-requires c = (popped _ c.pop.new.self.items c.in-Some.last _ c.in-Some.ensures.items c.loop-last.invariant.within).1

pub loop-last-preserved : goal.loop-last-preserved
loop-last-preserved c =
    let parts = popped _ c.pop.new.self.items c.in-Some.last _ c.in-Some.ensures.items c.loop-last.invariant.within in
    record {
      same = rolled_last c.args.from _ c.pop.new.self.items c.in-Some.last c.loop-last.bytes.items c.restore.new.bytes.items c.in-Some.ensures.items c.restore.ensures ∙ c.loop-last.invariant.same;
      within = subst (λ (n : ℕ). AreWithin (map undone c.pop.new.self.items) n) (sym (ap length c.restore.ensures ∙ length-restored c.args.from (undone c.in-Some.last) c.loop-last.bytes.items parts.1)) parts.0;
    }
