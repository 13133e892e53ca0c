use Rattle.std.proofs.Common.{ℕ, ◌≡◌, ◌≤◌, ◌+◌, ◌++◌, ◌∷◌, [], refl, length, take, drop, ap, ◌∙◌, arith, rules}
use Rattle.std.proofs.lemmas.Grind.{common_steps}
use Rattle.dkg_journal.specs.Disk.{written}
use Rattle.dkg_journal.specs.declared.file.Undo.{Undo}
use Rattle.dkg_journal.specs.declared.file.Span.{Span}
use Rattle.dkg_journal.proofs.Undone.{within-wrote, length-wrote, touched_push}
use Rattle.dkg_journal.proofs.file.File.write.Goals as goal

pub invariant_of-self-2 : goal.invariant_of-self-2
invariant_of-self-2 c =
    let one : Undo = record { place = c.args.place; old = c.in_ok-old.old } in
    let pushed : c.push-pushed.new.self.items ≡ c.self.inside.undo.items ++ one ∷ [] = grind (arith, common_steps, c.push-pushed.ensures.items, c.in_ok-reserve.ensures.items, c.if-prove.false) in
    let span : Span = record { start = c.args.place; end = c.args.place + c.len.result } in
    let noted : c.push-noted.new.self.items ≡ c.self.inside.spans.items ++ span ∷ [] = grind (arith, common_steps, c.push-noted.ensures.items, c.in_ok-reserve-2.ensures.items, c.if-prove-2.false) in
    let size : c.len.result ≡ length c.in_ok-old.old.items = omega (arith, c.len.ensures, c.in_ok-old.old.ok.0) in
    let fits : c.args.place ≤ length c.self.inside.bytes.items = search rules in
    let kept : c.in_ok-old.old.items ≡ take (length c.args.bytes.now) (drop c.args.place c.self.inside.bytes.items) = search rules in
    let wrote : c.overwrite.new.bytes.items ≡ written c.args.place c.args.bytes.now c.self.inside.bytes.items = search rules in
    let long = ap length wrote ∙ length-wrote c.args.place c.args.bytes.now c.self.inside.bytes.items fits in (
      omega (arith, long, c.self.invariant.0),
      within-wrote c.self.inside.undo.items one c.push-pushed.new.self.items c.args.place c.args.bytes.now c.self.inside.bytes.items c.overwrite.new.bytes.items pushed c.self.invariant.1 fits refl kept wrote,
      touched_push c.self.inside.spans.items c.push-noted.new.self.items c.self.inside.undo.items c.push-pushed.new.self.items span one noted pushed refl (ap (λ (n : ℕ). c.args.place + n) size) c.self.invariant.2,
    )
