-- Over devices that are valid for a consistent script a setup stops neither by this node's share nor by a dealing that is given back, and this node deals what it dealt.
use Rattle.std.proofs.Common.{◌≡◌, ℕ, ◌==◌, ◌&&◌, ◌<◌, ◌^◌, List, [], ◌∷◌, Option, Some, None, Ok, Err, Bool, true, false, cond, arith, refl, sym, ap, subst, ◌∙◌, filter, nat_lt}
use Rattle.std.specs.Prelude.{◌||◌, is_none, is_some, IfOk, IsSomeAnd, Result, if◌then◌else◌}
use Rattle.std.specs.FinMap as maps
use Rattle.std.specs.FinMap.{entries as pairs_in, entries_sorted, find, get, get-entries}
use Rattle.std.specs.List.{AllByRecursion}
use Rattle.std.specs.Option.{option_map_or, option_or}
use Rattle.std.proofs.lemmas.Bool.{and_parts, eqb-true}
use Rattle.std.proofs.lemmas.Bool.Decides.{nat_tests}
use Rattle.dkg_values.specs.Rising.{lookup}
use Rattle.dkg_ceremony.specs.Dealings.{dealing_of}
use Rattle.dkg_ceremony.specs.Deals.{deal_of}
use Rattle.dkg_ceremony.specs.PartialPublics.{partial_public_of, share_public_of}
use Rattle.dkg_ceremony.specs.RoundLaws.{round_has}
use Rattle.dkg_ceremony.specs.declared.ceremony.DealingError.{DealingError}
use Rattle.dkg_ceremony.specs.declared.deal.DealError.{DealError}
use Rattle.dkg_ceremony.specs.declared.mode.Reveal.TheVariants.{V1}
use Rattle.dkg_ceremony.specs.declared.output.Output.{Output}
use Rattle.dkg_ceremony.specs.declared.round.RoundParts.{RoundParts as Round}
use Rattle.dkg_infos.specs.declared.directory.Unit as directory
use Rattle.dkg_infos.specs.declared.fault.Fault.TheVariants.{LocalState}
use Rattle.dkg_infos.specs.declared.fault.LocalCause.TheVariants.{ShareRefused, StoredDealing}
use Rattle.dkg_infos.specs.declared.info.EpochInfo.{EpochInfo}
use Rattle.dkg_infos.specs.declared.outcome.EpochOutcome.{EpochOutcome}
use Rattle.dkg_infos.specs.declared.outcome.EpochOutcome.TheVariants.{Success, Failure}
use Rattle.dkg_secrets.specs.Keys.{key_cmp}
use Rattle.dkg_secrets.proofs.Map.{keys_total}
use Rattle.dkg_store.specs.Acts.{Held}
use Rattle.dkg_store.specs.Pairs.{Pairs}
use Rattle.dkg_store.specs.Recorded.{Pair, first_refused, refused_or}
use Rattle.dkg_script.specs.Blocks.{round_by}
use Rattle.dkg_script.proofs.Listed.{each_found}
use Rattle.dkg_core.specs.Forms.{IsSetupFault}
use Rattle.dkg_core.specs.Heard.{recovered_in}
use Rattle.dkg_core.specs.Live.{Live}
use Rattle.dkg_core.specs.Setup.{carried_share, fitting, pairs_of, recovered_share, share_below}
use Rattle.dkg_core.proofs.Storing.{looked_up}
use Rattle.dkg_lives.specs.Given.{Lived, at_step}
use Rattle.dkg_promises.proofs.Sharing.{carried_serves}

some_is : {A : Type 0} {x y : A} → ◌≡◌ {A = Option A} (Some x) (Some y) → x ≡ y
some_is e = cc

none_some : {A : Type 0} (x : A) → ◌≡◌ {A = Option A} None (Some x) → ⊥
none_some x e = cc

-- DEALINGS that all pass

module _ (check : ℕ → List ℕ → ℕ → Result (Unit {0}) DealingError) (epoch : ℕ) where
  abbrev is_here : Pair → Bool
  is_here p = (p.0.0 == epoch) && nat_lt p.0.1 (2 ^ 32)

  none_refused : (es : List Pair) → AllByRecursion (λ p. is_here p ≡ true → check p.0.1 p.1.0 p.1.1 ≡ Ok tt) es → first_refused check (filter is_here es) ≡ None
  none_refused [] all = refl
  none_refused (x ∷ es) all = by_test (is_here x) refl (none_refused es all.1)
    where
      by_answer : (r : Result (Unit {0}) DealingError) → r ≡ Ok tt → (dealer : ℕ) (later : Option ℕ) → later ≡ None → refused_or r dealer later ≡ None
      by_answer (Ok u) is dealer later none = none
      by_answer (Err e) is dealer later none = absurd (let wrong : ◌≡◌ {A = Result (Unit {0}) DealingError} (Err e) (Ok tt) = is in cc)

      by_test : (b : Bool) → is_here x ≡ b → first_refused check (filter is_here es) ≡ None → first_refused check (cond b (x ∷ filter is_here es) (filter is_here es)) ≡ None
      by_test true is rest = by_answer (check x.0.1 x.1.0 x.1.1) (all.0 is) x.0.1 (first_refused check (filter is_here es)) rest
      by_test false is rest = rest

all_map : {X : Type 0} (P Q : X → Type 0) (xs : List X) → ((x : X) → P x → Q x) → AllByRecursion P xs → AllByRecursion Q xs
all_map P Q [] leads all = tt
all_map P Q (x ∷ xs) leads all = (leads x all.0, all_map P Q xs leads all.1)

-- NO STORED DEALING of a round is refused where each one of it passes
pub none_refused_in : (me : ℕ) (round : Round) (st : Live directory.Unit) (pairs : Pairs) → st.records.dealings ≡ maps.entries pairs
    → ((who : ℕ) (pair : List ℕ × ℕ) → who < 2 ^ 32 → get pairs (round.number, who) ≡ Some pair → dealing_of round me who pair.0 pair.1 ≡ Ok tt)
    → first_refused (λ d. dealing_of round me d) (pairs_of st round.number) ≡ None
none_refused_in me round st pairs same passes =
    ap (λ (ps : List Pair). first_refused (λ d. dealing_of round me d) (filter (λ p. (p.0.0 == round.number) && nat_lt p.0.1 (2 ^ 32)) ps)) same
    ∙ none_refused (λ d. dealing_of round me d) round.number (pairs_in pairs)
    (all_map (λ x. find key_cmp x.0 (pairs_in pairs) ≡ Some x.1) _ (pairs_in pairs) each (each_found keys_total (pairs_in pairs) (entries_sorted pairs)))
  where
    is_low : (q : ℕ) → nat_lt q (2 ^ 32) ≡ true → q < 2 ^ 32
    is_low q e = grind (arith, nat_tests)

    each : (x : Pair) → find key_cmp x.0 (pairs_in pairs) ≡ Some x.1 → ((x.0.0 == round.number) && nat_lt x.0.1 (2 ^ 32)) ≡ true → dealing_of round me x.0.1 x.1.0 x.1.1 ≡ Ok tt
    each x there test =
        let parts = and_parts (x.0.0 == round.number) (nat_lt x.0.1 (2 ^ 32)) test in
        let at : get pairs (round.number, x.0.1) ≡ Some x.1 = subst (λ (e : ℕ). get pairs (e, x.0.1) ≡ Some x.1) (eqb-true x.0.0 round.number parts.0) (get-entries pairs x.0 ∙ there) in
        passes x.0.1 x.1 (is_low x.0.1 parts.1) at

-- of what a call answers
of_answer : {T E : Type 0} (P : T → Type 0) (r : Result T E) (t : T) → IfOk r P → r ≡ Ok t → P t
of_answer P (Ok x) t so is = subst P (let same : x ≡ t = cc in same) so
of_answer {T} {E} P (Err e) t so is = absurd (let no : ◌≡◌ {A = Result T E} (Err e) (Ok t) = is in cc)

module _ (g : Lived) (taken : ℕ) (epoch : ℕ) (info : EpochInfo directory.Unit) where
  abbrev me : ℕ
  me = g.script.config.me

  -- It is this node's of the output that the info carries on.
  abbrev pub Fits : ℕ → Type 0
  Fits share = partial_public_of info.output me ≡ Some (share_public_of share)

  -- one that is recovered fits, where the stored one does
  pub recovered_fits : (k : Held) → ((at_step g taken).seen k).shares ≡ maps.entries k.secrets.shares → ((share : ℕ) → get k.secrets.shares info.epoch ≡ Some share → Fits share)
      → (share : ℕ) → recovered_share (at_step g taken) ((at_step g taken).seen k) info ≡ Some share → Fits share
  unfolding at_step
  recovered_fits k reads stored share is = by_stored (get k.secrets.shares info.epoch) refl (ap (λ (o : Option ℕ). option_or o (carried_share (at_step g taken) ((at_step g taken).seen k) info info.outcome)) (sym (ap (lookup info.epoch) reads ∙ looked_up info.epoch k.secrets.shares)) ∙ is)
    where
      same_number : (a b : ℕ) → (a == b) ≡ true → a ≡ b
      same_number a b e = grind (arith, nat_tests)

      fitted : (o : Option ℕ) → fitting (at_step g taken) info o ≡ Some share → Fits share
      fitted None e = absurd (none_some share e)
      fitted (Some its) e = by_public (partial_public_of info.output me) refl e
        where
          by_test : (public : ℕ) → partial_public_of info.output me ≡ Some public → (t : Bool) → (public == share_public_of its) ≡ t → (if t then Some its else None) ≡ Some share → Fits share
          by_test public there true same e = there ∙ ap (λ (x : ℕ). Some x) (same_number public (share_public_of its) same) ∙ ap (λ (x : ℕ). Some (share_public_of x)) (some_is e)
          by_test public there false same e = absurd (none_some share e)

          by_public : (o : Option ℕ) → partial_public_of info.output me ≡ o → (if option_map_or (λ p. p == share_public_of its) o false then Some its else None) ≡ Some share → Fits share
          by_public None there e = absurd (none_some share e)
          by_public (Some public) there e = by_test public there (public == share_public_of its) refl e

      carried : (outcome : EpochOutcome) → carried_share (at_step g taken) ((at_step g taken).seen k) info outcome ≡ Some share → Fits share
      carried Success e = absurd (none_some share e)
      carried Failure e = fitted (share_below ((at_step g taken).seen k).shares info.epoch) e

      by_stored : (o : Option ℕ) → get k.secrets.shares info.epoch ≡ o → option_or o (carried_share (at_step g taken) ((at_step g taken).seen k) info info.outcome) ≡ Some share → Fits share
      by_stored None there e = carried info.outcome e
      by_stored (Some its) there e = subst Fits (some_is e) (stored its there)

  -- such a share isn't refused
  pub share_serves : (share : Option ℕ) (seed : List ℕ) (st : Live directory.Unit) (number : ℕ) → ((its : ℕ) → share ≡ Some its → Fits its)
      → IsSetupFault (at_step g taken) epoch info share seed st (LocalState (ShareRefused number)) → ⊥
  unfolding at_step
  share_serves share seed st number fits why = by_share share refl
    where
      round : Round
      round = why.1.2.0

      previous : round.previous ≡ Some info.output
      previous = ap (λ (r : Round). r.previous)
          (of_answer (λ (r : Round). r ≡ record { namespace = g.script.config.namespace; number = epoch; previous = Some info.output; mode = g.script.config.mode; reveal = V1; dealers = info.output.players; players = info.players })
          (round_by g.script epoch info) round
          (round_has g.script.config.namespace epoch (Some info.output) g.script.config.mode V1 info.output.players info.players) why.1.2.1)

      by_key : (a b c : Bool) → (a && b && c) ≡ true → b ≡ true
      by_key true true c e = refl
      by_key true false c e = absurd cc
      by_key false true c e = absurd cc
      by_key false false c e = absurd cc

      by_share : (o : Option ℕ) → share ≡ o → ⊥
      by_share None none =
          let some : (is_some share || is_none round.previous) ≡ true = by_key _ (is_some share || is_none round.previous) _ why.1.2.2.0 in
          let nothing : (is_some share || is_none round.previous) ≡ false = ap (λ (o : Option ℕ). is_some o || is_none round.previous) none ∙ ap (λ (o : Option Output). is_none o) previous in
          let wrong : true ≡ false = sym some ∙ nothing in cc
      by_share (Some its) there =
          carried_serves round me its seed why.1.2.2.1.0 (subst (λ (p : Option Output). IsSomeAnd p (λ (o : Output). partial_public_of o me ≡ Some (share_public_of its))) (sym previous) (fits its there))
          (subst (λ (o : Option ℕ). deal_of round me o seed ≡ Err why.1.2.2.1.0) there why.1.2.2.1.1)

  -- A STORED DEALING is refused only where one that is given back is
  pub stored_pass : (share : Option ℕ) (seed : List ℕ) (st : Live directory.Unit) (now : Held) (number dealer : ℕ) → st.records.dealings ≡ maps.entries (recovered_in now)
      → ((round : Round) (who : ℕ) (pair : List ℕ × ℕ) → (at_step g taken).rules.round_of (at_step g taken).namespace epoch (Some info.output) (at_step g taken).mode (at_step g taken).reveal info.output.players info.players ≡ Ok round
      → who < 2 ^ 32 → get (recovered_in now) (round.number, who) ≡ Some pair → dealing_of round me who pair.0 pair.1 ≡ Ok tt)
      → IsSetupFault (at_step g taken) epoch info share seed st (LocalState (StoredDealing number dealer)) → ⊥
  unfolding at_step
  stored_pass share seed st now number dealer same passes why =
      none_some dealer (sym (none_refused_in me why.1.2.0 st (recovered_in now) same (λ who pair low at. passes why.1.2.0 who pair why.1.2.1 low at)) ∙ why.1.2.2.2)

-- THIS NODE'S OWN dealing is what the same share and seed deal
pub own_same : (round : Round) (me : ℕ) (share : Option ℕ) (seed kept dealt : List ℕ) (privates others : List (ℕ × ℕ)) → deal_of round me share seed ≡ Ok (kept, privates) → deal_of round me share seed ≡ Ok (dealt, others) → kept ≡ dealt
own_same round me share seed kept dealt privates others one other = ap (λ (d : List ℕ × List (ℕ × ℕ)). d.0) (the_deal (sym one ∙ other))
  where
    the_deal : {x y : List ℕ × List (ℕ × ℕ)} → ◌≡◌ {A = Result (List ℕ × List (ℕ × ℕ)) DealError} (Ok x) (Ok y) → x ≡ y
    the_deal e = cc
