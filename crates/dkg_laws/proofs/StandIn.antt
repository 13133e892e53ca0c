-- The stand-in's rules are those of a ceremony.
use Rattle.std.proofs.Common.{◌≡◌, ℕ, List, true, Option, Some, None, sym, ◌∙◌, ap, subst}
use Rattle.std.specs.Prelude.{IfOk, IsSomeAnd, Contains, Result, Ok, Err}
use Rattle.dkg_values.specs.Rising.{lookup}
use Rattle.dkg_values.specs.IndexLaws.{Contains-index_of}
use Rattle.dkg_ceremony.specs.Dealings.{dealing_of}
use Rattle.dkg_ceremony.specs.Deals.{deal_of}
use Rattle.dkg_ceremony.specs.DealLaws as deals
use Rattle.dkg_ceremony.specs.RoundLaws as rounds
use Rattle.dkg_ceremony.specs.Rounds.{round_of}
use Rattle.dkg_ceremony.specs.declared.mode.Mode.{Mode}
use Rattle.dkg_ceremony.specs.declared.mode.Reveal.{Reveal}
use Rattle.dkg_ceremony.specs.declared.output.Output.{Output}
use Rattle.dkg_ceremony.specs.declared.round.RoundParts.{RoundParts as Round}
use Rattle.dkg_core.specs.Fixed.{Rules, has}
use Rattle.dkg_core.specs.Laws.{StandInsAreCeremonies}

-- of what a call answers
of_answer : {T E : Type 0} (P : T → Type 0) (r : Result T E) (t : T) → IfOk r P → r ≡ Ok t → P t
of_answer P (Ok x) t so is = subst P (let same : x ≡ t = cc in same) so
of_answer {T} {E} P (Err e) t so is = absurd (let no : ◌≡◌ {A = Result T E} (Err e) (Ok t) = is in cc)

of_found : (P : ℕ → Type 0) (o : Option ℕ) (x : ℕ) → IsSomeAnd o P → o ≡ Some x → P x
of_found P (Some y) x so is = subst P (let same : y ≡ x = cc in same) so
of_found P None x so is = absurd so

number_is : (namespace : List ℕ) (number : ℕ) (previous : Option Output) (mode : Mode) (reveal : Reveal) (dealers players : List ℕ) (round : Round)
    → round_of namespace number previous mode reveal dealers players ≡ Ok round → round.number ≡ number
number_is namespace number previous mode reveal dealers players round made =
    ap (λ (r : Round). r.number)
    (of_answer (λ (r : Round). r ≡ record { namespace = namespace; number = number; previous = previous; mode = mode; reveal = reveal; dealers = dealers; players = players })
    (round_of namespace number previous mode reveal dealers players) round (rounds.round_has namespace number previous mode reveal dealers players) made)

passes : (round : Round) (me : ℕ) (share : Option ℕ) (seed public : List ℕ) (privates : List (ℕ × ℕ)) (private : ℕ) → has round.dealers me ≡ true → has round.players me ≡ true
    → deal_of round me share seed ≡ Ok (public, privates) → lookup me privates ≡ Some private → dealing_of round me me public private ≡ Ok tt
passes round me share seed public privates private member plays dealt found =
    let all = of_answer (λ (d : List ℕ × List (ℕ × ℕ)). (who : ℕ) → Contains round.players who → IsSomeAnd (lookup who d.1) (λ half. dealing_of round who me d.0 half ≡ Ok tt))
    (deal_of round me share seed) (public, privates) (deals.deals_pass round me share seed (Contains-index_of me round.dealers member)) dealt in
    of_found (λ (half : ℕ). dealing_of round me me public half ≡ Ok tt) (lookup me privates) private (all me (Contains-index_of me round.players plays)) found

pub stand_ins_are_ceremonies : {Dir : Type 0} → StandInsAreCeremonies Dir
stand_ins_are_ceremonies c is = record {
  round_has = λ namespace number previous mode reveal dealers players round made.
      number_is namespace number previous mode reveal dealers players round (sym (ap (λ (r : Rules). r.round_of namespace number previous mode reveal dealers players) is) ∙ made);
  deals_pass = λ round share seed public privates private member plays dealt found.
      ap (λ (r : Rules). r.dealing_of round c.me c.me public private) is
      ∙ passes round c.me share seed public privates private member plays (sym (ap (λ (r : Rules). r.deal_of round c.me share seed) is) ∙ dealt) found;
}
