use Rattle.std.proofs.Common.{◌≡◌, ℕ, List, ◌++◌, Result, Ok, Err, ap, ◌∙◌, append_assoc}
use Rattle.std.specs.Prelude.{OnOk, OnErr}
use Rattle.dkg_values.specs.Codec.{StandsInFront}
use Rattle.dkg_types.specs.AddressCodes.{socket_spelling}
use Rattle.dkg_types.proofs.addresses.put_ends.Goals as goal

both_stand : {T E : Type 0} (r : Result T E) (old mid new a b : List ℕ) → mid ≡ old ++ a → OnOk r (new ≡ mid ++ b) → OnOk r (new ≡ old ++ (a ++ b))
both_stand (Ok u) old mid new a b is then = then ∙ ap (λ (x : List ℕ). x ++ b) is ∙ append_assoc old a b
both_stand (Err e) old mid new a b is then = tt

first_stands : {T E : Type 0} (r : Result T E) (old mid new a : List ℕ) → mid ≡ old ++ a → OnErr r (StandsInFront mid new) → OnErr r (StandsInFront old new)
first_stands (Ok u) old mid new a is then = tt
first_stands (Err e) old mid new a is then = (a ++ then.0, then.1 ∙ ap (λ (x : List ℕ). x ++ then.0) is ∙ append_assoc old a then.0)

pub returns-clause-ok : goal.returns-clause-ok
returns-clause-ok c =
    both_stand c.put-2.result c.args.out.now.items c.put.new.out.items c.put-2.new.out.items (socket_spelling c.args.ingress.now) (socket_spelling c.args.egress.now) c.in_ok-put.ensures.ok c.put-2.ensures.ok

pub returns-clause-err : goal.returns-clause-err
returns-clause-err c = first_stands c.put-2.result c.args.out.now.items c.put.new.out.items c.put-2.new.out.items (socket_spelling c.args.ingress.now) c.in_ok-put.ensures.ok c.put-2.ensures.err
