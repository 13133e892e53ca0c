use Rattle.std.proofs.Common.{◌++◌, ◌∷◌, [], List, ℕ, sym, ◌∙◌, ap, subst, arith}
use Rattle.std.proofs.lemmas.List.{append-nil}
use Rattle.dkg_values.specs.declared.name.Name.TheVariants.{Segment}
use Rattle.dkg_journal.specs.Records.{Whole}
use Rattle.dkg_journal.specs.declared.disk.Op.{Op}
use Rattle.dkg_journal.specs.declared.disk.Op.TheVariants.{Install}
use Rattle.dkg_journal.proofs.Finding.{mend_none, mend_some, takes_more}
use Rattle.dkg_journal.proofs.open.Found.take_in.Goals as goal

pub returns-then-place-len-clause-taken : goal.returns-then-place-len-clause-taken
returns-then-place-len-clause-taken c = λ before rows fresh takes.
    let found = c.in_ok-place.ensures.whole in
    let whole = subst (λ (x : List ℕ). Whole 0 found.0 c.in_ok-place.place x) c.deref.ensures.value found.1 in
    takes_more before rows c.args.section c.args.bytes.items found.0 c.in_ok-place.place _ _ _ _ _ _ fresh takes whole found.2 c.in_ok-insert.ensures.done
    (sym (ap (λ (l : List Op). c.args.self.now.mending.items ++ l) (mend_none c.args.section c.args.bytes.items found.0 c.in_ok-place.place whole (omega (arith, c.if-place-len.true, c.len.ensures))) ∙ append-nil c.args.self.now.mending.items))

pub returns-clause-taken : goal.returns-clause-taken
returns-clause-taken c = λ before rows fresh takes.
    let found = c.in_ok-place.ensures.whole in
    let whole = subst (λ (x : List ℕ). Whole 0 found.0 c.in_ok-place.place x) c.deref.ensures.value found.1 in
    takes_more before rows c.args.section c.args.bytes.items found.0 c.in_ok-place.place _ _ _ _ _ _ fresh takes whole found.2 c.in_ok-insert.ensures.done
    (c.in_ok-push-2.ensures.items ∙ ap (λ (l : List Op). c.args.self.now.mending.items ++ l) (ap (λ (b : List ℕ). Install (Segment c.args.section) b ∷ []) (c.new.ensures ∙ c.in_ok-push.ensures.items) ∙ sym (mend_some c.args.section c.args.bytes.items found.0 c.in_ok-place.place whole (omega (arith, c.if-place-len.false, c.len.ensures)))))
