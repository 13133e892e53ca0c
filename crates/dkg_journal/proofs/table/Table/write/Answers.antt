use Rattle.std.proofs.Common.{◌≡◌, ◌≤◌, length, Some, sym, ◌∙◌, ap, subst, rules}
use Rattle.std.specs.Option.{option_copied_mut}
use Rattle.std.proofs.lemmas.Option.{same_Some, none-some}
use Rattle.dkg_journal.specs.Kept.{KeptBytes, AreWithin, wrote}
use Rattle.dkg_journal.proofs.Rows.{found_file, found_some, found_update, found_same, missing_file, as_update}
use Rattle.dkg_journal.proofs.Synced.{kept_wrote, update_synced, same_synced}
use Rattle.dkg_journal.proofs.table.Table.write.Goals as goal

pub write-requires : goal.write-requires
write-requires c =
    let found = found_file c.args.name c.self.inside.held.entries c.args.self.now c.in-Some.file.now c.self.view_is (ap option_copied_mut (sym c.in-Some.is) ∙ c.get_mut.ensures.value) in
    subst (λ (f : KeptBytes). c.args.place ≤ length f.bytes) (same_Some c.requires.0 c.in-Some.file.now (sym c.requires.1 ∙ found)) c.requires.2

pub unreachable-requires : goal.unreachable-requires
unreachable-requires c =
    let none = missing_file c.args.name c.self.inside.held.entries c.args.self.now c.self.view_is (ap option_copied_mut (sym c.in-None.is) ∙ c.get_mut.ensures.value) in
    none-some c.requires.0 (sym none ∙ c.requires.1)

-- a write that found no memory has written nothing
kept : (c : goal.After-from_residual) → (c.get_mut.follows.lender c.write.new.self).entries ≡ c.args.self.now
kept c =
    let g = c.write.new.self in
    found_same c.args.name c.self.inside.held.entries c.args.self.now c.in-Some.file.now c.self.view_is (ap option_copied_mut (sym c.in-Some.is) ∙ c.get_mut.ensures.value) g (c.get_mut.follows.lender g).entries c.in_err-write-in-Some.ensures.kept (c.get_mut.follows.holds g).0

pub returns-in_err-write-in-Some-clause-kept : goal.returns-in_err-write-in-Some-clause-kept
returns-in_err-write-in-Some-clause-kept c = let same = kept c in search (rules, same)

pub returns-in_err-write-in-Some-clause-synced : goal.returns-in_err-write-in-Some-clause-synced
returns-in_err-write-in-Some-clause-synced c = same_synced _ _ (kept c)

pub returns-clause-done : goal.returns-clause-done
returns-clause-done c = λ f there.
    let es = c.self.inside.held.entries in
    let rows = c.args.self.now in
    let g = c.write.new.self in
    let found = ap option_copied_mut (sym c.in-Some.is) ∙ c.get_mut.ensures.value in
    let same : c.in-Some.file.now ≡ f = same_Some c.in-Some.file.now f (sym (found_file c.args.name es rows c.in-Some.file.now c.self.view_is found) ∙ there) in
    let update = found_update c.args.name es rows c.in-Some.file.now c.self.view_is found g (c.get_mut.follows.lender g).entries ((c.get_mut.follows.holds g).3 (found_some c.args.name es rows c.in-Some.file.now c.self.view_is found)).0 in (
      subst (λ (k : KeptBytes). k.synced ≤ length k.bytes) same c.write.ensures.sound,
      as_update _ _ c.args.name _ _ (ap (λ (k : KeptBytes). Some k) c.in_ok-write-in-Some.ensures.done ∙ ap (λ (k : KeptBytes). Some (wrote c.args.place c.args.bytes.now k)) same) update,
    )

pub returns-clause-synced : goal.returns-clause-synced
returns-clause-synced c =
    let f = c.requires.0 in
    let found = found_file c.args.name c.self.inside.held.entries c.args.self.now c.in-Some.file.now c.self.view_is (ap option_copied_mut (sym c.in-Some.is) ∙ c.get_mut.ensures.value) in
    let same : c.in-Some.file.now ≡ f = same_Some c.in-Some.file.now f (sym found ∙ c.requires.1) in
    let sound = subst (λ (k : KeptBytes). k.synced ≤ length k.bytes) same c.write.ensures.sound in
    let within = subst (λ (k : KeptBytes). AreWithin k.undo (length k.bytes)) same c.write.ensures.within in
    update_synced c.args.name f (wrote c.args.place c.args.bytes.now f) _ _ c.requires.1 (kept_wrote c.args.place c.args.bytes.now f sound within c.requires.2) (returns-clause-done c f c.requires.1).1
