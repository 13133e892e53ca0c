use Rattle.std.proofs.Common.{◌≡◌, ◌<◌, ◌^◌, ◌+◌, ℕ, true, Option, [], ◌∷◌, ◌++◌, subst, List, length, Ok, Err, arith}
use Rattle.std.specs.Prelude.{codes, IfSome, IsTrue}
use Rattle.std.proofs.lemmas.Result.{err_from_is_err_and}
use Rattle.dkg_types.specs.declared.addresses.Address.{Address}
use Rattle.dkg_values.specs.Rising.{keys_of}
use Rattle.std.proofs.lemmas.List.{length-append}
use Rattle.dkg_reading.specs.Grammar.{address_line_at, is_above}
use Rattle.dkg_reading.proofs.Rise.{pair_above}
use Rattle.dkg_reading.specs.Lines.{ReadsIf, begins}
use Rattle.dkg_reading.proofs.ReadOn.{ends_if, more_if, refused_if}
use Rattle.dkg_reading.proofs.config_lines.read_address_pairs.Goals as goal

pub pairs-preserved : goal.pairs-preserved
pairs-preserved c =
    let text = c.pairs.lines.rest.now in
    let rest = c.read_address_after.new.lines.rest.now in
    let done = c.pairs.pairs.items in
    let pair = c.in-Some.pair in
    let reads = subst (λ (d : List (ℕ × Address)). ReadsIf (begins (codes "address")) (address_line_at d) text (Ok c.in_ok-pair.field-0) rest) c.deref.ensures.value c.in_ok-pair.ensures.reads in
    let at = more_if (begins (codes "address")) address_line_at done text rest c.in_ok-pair.field-0 pair _ c.pairs.invariant.at c.in-Some.is reads c.in_ok-pair.ensures.on in
    let is_over = subst (λ (o : Option (ℕ × Address)). IfSome o (λ line. IsTrue (is_above (keys_of c.deref.result.now) line.0))) c.in-Some.is c.in_ok-pair.ensures.above in
    let has_room = subst (λ (o : Option (ℕ × Address)). IfSome o (λ _. length c.deref.result.now + 1 < 2 ^ 32)) c.in-Some.is c.in_ok-pair.ensures.in_bound in
    let above : is_above (keys_of done) pair.0 ≡ true = subst (λ (d : List (ℕ × Address)). is_above (keys_of d) pair.0 ≡ true) c.deref.ensures.value is_over in
    let room : length done + 1 < 2 ^ 32 = subst (λ (d : List (ℕ × Address)). length d + 1 < 2 ^ 32) c.deref.ensures.value has_room in
    let size = length-append done (pair ∷ []) in
    let few : length (done ++ pair ∷ []) < 2 ^ 32 = omega (arith, size, room) in
    record { at = rw c.in_ok-push.ensures.items at; rising = rw c.in_ok-push.ensures.items (pair_above done pair c.pairs.invariant.rising above); in_bound = rw c.in_ok-push.ensures.items few }

pub returns-clause-reads : goal.returns-clause-reads
returns-clause-reads c =
    let text = c.pairs.lines.rest.now in
    let rest = c.read_address_after.new.lines.rest.now in
    let reads = subst (λ (d : List (ℕ × Address)). ReadsIf (begins (codes "address")) (address_line_at d) text (Ok c.in_ok-pair.field-0) rest) c.deref.ensures.value c.in_ok-pair.ensures.reads in
    ends_if (begins (codes "address")) address_line_at c.pairs.pairs.items text rest c.in_ok-pair.field-0 _ c.pairs.invariant.at c.in_default.is reads

pub returns-in_err-pair-clause-reads : goal.returns-in_err-pair-clause-reads
returns-in_err-pair-clause-reads c =
    let p = err_from_is_err_and c.from_residual.result c.from_residual.ensures.1 in
    let text = c.pairs.lines.rest.now in
    let rest = c.read_address_after.new.lines.rest.now in
    let reads = subst (λ (d : List (ℕ × Address)). ReadsIf (begins (codes "address")) (address_line_at d) text (Err c.in_err-pair.field-0.0) rest) c.deref.ensures.value c.in_err-pair.ensures.reads in
    let r = refused_if (begins (codes "address")) address_line_at c.pairs.pairs.items text rest _ c.in_err-pair.field-0.0 c.pairs.invariant.at reads in
    rw (p.1, p.2) r
