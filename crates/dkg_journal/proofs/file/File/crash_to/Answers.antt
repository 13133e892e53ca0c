use Rattle.std.proofs.Common.{◌≡◌, sym, rules, subst, List, ℕ, map}
use Rattle.dkg_journal.specs.Kept.{KeptBytes, FileImage, kept_to}
use Rattle.dkg_journal.proofs.Loose.{rolled_image}
use Rattle.dkg_journal.proofs.Undone.{undone}
use Rattle.dkg_journal.proofs.file.File.crash_to.Goals as goal

pub returns-clause-image : goal.returns-clause-image
returns-clause-image c =
    let f : KeptBytes = record { bytes = c.self.inside.bytes.items; synced = c.self.inside.synced; undo = map undone c.self.inside.undo.items } in
    let left : c.truncate.new.self.items ≡ kept_to c.args.from f = search rules in
    subst (λ (l : List ℕ). FileImage c.args.self.now l) (sym left) (subst (λ (k : KeptBytes). FileImage k (kept_to c.args.from f)) c.self.view_is (rolled_image f c.args.from c.self.invariant.0 c.self.invariant.1))
