-- A player's share is the outcome's polynomial at the player's point, and all see the same outcome.
use Rattle.std.proofs.Common.{◌≡◌, ℕ, suc, ◌+◌, ◌*◌, ◌%◌, Bool, true, false, cond, eqb, List, [], ◌∷◌, length, map, Option, Some, None, is_some, Result, Ok, Err, inl, inr, refl, sym, ap, ◌∙◌, arith}
use Rattle.std.specs.Prelude.{Contains, IfErr, IfOk, IfSome, option_and_then, option_map, is_ok, unwrap_or, not, ◌==◌, ◌&&◌}
use Rattle.std.specs.Option.{option_map_or}
use Rattle.std.specs.List.{AllByRecursion, position_from, slice_get, zip}
use Rattle.std.specs.Result.{result_ok}
use Rattle.std.specs.Str.{bytes_eq}
use Rattle.std.proofs.lemmas.Bool.{and_parts, cases_Bool, eqb-true}
use Rattle.std.proofs.lemmas.Slice.Eq.{bytes_eq-Decides}
use Rattle.dkg_values.specs.declared.codec.CodecError.{CodecError}
use Rattle.dkg_values.specs.Rising.{lookup, index_of}
use Rattle.dkg_values.specs.IndexLaws.{index_of-Contains}
use Rattle.dkg_ceremony.specs.declared.round.RoundParts.{RoundParts as Round}
use Rattle.dkg_ceremony.specs.declared.output.Output.{Output}
use Rattle.dkg_ceremony.specs.declared.log_entry.LogEntry.{LogEntry}
use Rattle.dkg_ceremony.specs.declared.log_entry.LogEntry.TheVariants.{Ack, Reveal}
use Rattle.dkg_ceremony.specs.declared.dealer_log.DealerLog.{DealerLog}
use Rattle.dkg_ceremony.specs.declared.ceremony.DealingError.{DealingError}
use Rattle.dkg_ceremony.specs.declared.ceremony.DealingError.TheVariants.{UnexpectedDealer, InvalidCommitmentDegree, MismatchedReshareCommitment, InvalidDealerShare}
use Rattle.dkg_ceremony.specs.Acks.{ack_content, ack_of, check_ack_of}
use Rattle.dkg_ceremony.specs.Dealings.{dealing_of, fits_at, reshares}
use Rattle.dkg_ceremony.specs.Outputs.{OutputParts, output_parts, do_parts_agree, output_from}
use Rattle.dkg_ceremony.specs.OutputGrammar.{parts_of_output}
use Rattle.dkg_ceremony.specs.Polynomials.{prime, value_at}
use Rattle.dkg_ceremony.specs.PolynomialLaws.{weighted_shares, value_at-weighted_sum}
use Rattle.dkg_ceremony.specs.Thresholds.{quorum_of}
use Rattle.dkg_ceremony.specs.ValidLogs.{ack_at, ack_in, bears_ack_of, entry_passes, entries_pass, entry_of, is_valid}
use Rattle.dkg_ceremony.specs.Weights.{weights_of}
use Rattle.dkg_ceremony.specs.Outcomes.{LogMap, has_valid, selected_of, public_in, sum_of, keeps_key, outcome_parts, output_with, output_for, revealed_of, combined_of, outcome_of}
use Rattle.dkg_ceremony.specs.Finishes.{DealingMap, IsMissing, private_with, private_from, private_by, private_in, first_missing, first_that, has_public, lacks_dealing, weighted_total, share_of, finish_where, finish_with, finish_from, finish_of}
use Rattle.dkg_ceremony.specs.PartialPublics.{partial_public_of, share_public_of}
use Rattle.dkg_ceremony.specs.SelectionLaws.{AreValid, has_log, selected_valid, public_length}
use Rattle.dkg_ceremony.specs.SumLaws.{all_long}
use Rattle.dkg_ceremony.specs.DealLaws.{found_index}

-- ---- the entry at a player's index

pub record EntryFound (content public : List ℕ) (base : ℕ) (players : List ℕ) (entries : List LogEntry) (me : ℕ) : Type 0 where
  pub at : ℕ
  pub entry : LogEntry
  pub index_is : position_from (λ x. eqb x me) base players ≡ Some (base + at)
  pub there : slice_get entries at ≡ Some entry
  pub passes : entry_passes content public (base + at) me entry ≡ true

later : (content public : List ℕ) (base x : ℕ) (players : List ℕ) (entry : LogEntry) (entries : List LogEntry) (me : ℕ) → eqb x me ≡ false → EntryFound content public (base + 1) players entries me → EntryFound content public base (x ∷ players) (entry ∷ entries) me
later content public base x players entry entries me other f =
    let index : base + 1 + f.at ≡ base + suc f.at = omega arith in
    record {
      at = suc f.at;
      entry = f.entry;
      index_is = rw other (f.index_is ∙ ap (λ (n : ℕ). Some n) index);
      there = f.there;
      passes = ap (λ (n : ℕ). entry_passes content public n me f.entry) (sym index) ∙ f.passes;
    }

entry_found : (content public : List ℕ) (base : ℕ) (players : List ℕ) (entries : List LogEntry) (me : ℕ) → entries_pass content public base players entries ≡ true → is_some (position_from (λ x. eqb x me) base players) ≡ true → EntryFound content public base players entries me
entry_found content public base [] entries me e is = absurd cc
entry_found content public base (x ∷ players) [] me e is = absurd cc
entry_found content public base (x ∷ players) (entry ∷ entries) me e is =
    let parts = and_parts (entry_passes content public base x entry) (entries_pass content public (base + 1) players entries) e in
    elim (cases_Bool (eqb x me)) [
      | inl here ↦
          let same : x ≡ me = eqb-true x me here in
          let zero_more : base ≡ base + 0 = omega arith in
          record {
            at = 0;
            entry = entry;
            index_is = rw here (ap (λ (n : ℕ). Some n) zero_more);
            there = refl;
            passes = ap (λ (n : ℕ). entry_passes content public n me entry) (sym zero_more) ∙ ap (λ (k : ℕ). entry_passes content public base k entry) (sym same) ∙ parts.0;
          }
      | inr other ↦ later content public base x players entry entries me other (entry_found content public (base + 1) players entries me parts.1 (rw other at is))
    ]

valid_entries : (round : Round) (dealer : ℕ) (log : DealerLog) → is_valid round dealer log ≡ true → entries_pass (ack_content round dealer log.public) log.public 0 round.players log.entries ≡ true
unfolding is_valid
valid_entries round dealer log e = (and_parts _ _ e).1

-- ---- which dealing is missing

dealing_lacks : (public : List ℕ) (dealing : Option (List ℕ × ℕ)) → is_some (option_and_then (private_with public) dealing) ≡ has_public public dealing
dealing_lacks public None = refl
dealing_lacks public (Some d) = elim (bytes_eq d.0 public) as (λ b. is_some (cond b (Some d.1) None) ≡ b) [ true ↦ refl | false ↦ refl ]

ack_passes : (round : Round) (dealer : ℕ) (public : List ℕ) (me : ℕ) (ack : List ℕ) → is_some (index_of me round.players) ≡ true → bytes_eq (ack_of me round dealer public) ack ≡ true → is_ok (check_ack_of round dealer public me ack) ≡ true
unfolding check_ack_of
ack_passes round dealer public me ack there same = rw (there, same) refl

-- what an entry says of the two
entry_lacks : (round : Round) (dealer : ℕ) (public : List ℕ) (me : ℕ) (dealing : Option (List ℕ × ℕ)) (index : ℕ) (entry : LogEntry) → is_some (index_of me round.players) ≡ true → entry_passes (ack_content round dealer public) public index me entry ≡ true
    → (option_map_or (λ ack. is_ok (check_ack_of round dealer public me ack)) (ack_in entry) false && not (has_public public dealing)) ≡ not (is_some (private_from public dealing entry))
entry_lacks round dealer public me dealing index (Ack ack) there passes = rw (ack_passes round dealer public me ack there passes) (ap (λ (b : Bool). not b) (sym (dealing_lacks public dealing)))
entry_lacks round dealer public me dealing index (Reveal private) there passes = refl

-- the entry of a valid log at the index of a player
pub record EntryAt (round : Round) (dealer : ℕ) (log : DealerLog) (me index : ℕ) : Type 0 where
  pub entry : LogEntry
  pub is : entry_of round.players me log ≡ Some entry
  pub passes : entry_passes (ack_content round dealer log.public) log.public index me entry ≡ true

entry_at : (round : Round) (dealer : ℕ) (log : DealerLog) (me index : ℕ) → is_valid round dealer log ≡ true → index_of me round.players ≡ Some index → EntryAt round dealer log me index
entry_at round dealer log me index valid at =
    let content = ack_content round dealer log.public in
    let found = entry_found content log.public 0 round.players log.entries me (valid_entries round dealer log valid) (ap (λ (o : Option ℕ). is_some o) at) in
    let at_index : 0 + found.at ≡ index = let p : Some (0 + found.at) ≡ Some index = sym found.index_is ∙ at in cc in
    let stands : found.at ≡ index = omega (arith, at_index) in
    record {
      entry = found.entry;
      is = ap (λ (o : Option ℕ). option_and_then (slice_get log.entries) o) at ∙ ap (λ (n : ℕ). slice_get log.entries n) (sym stands) ∙ found.there;
      passes = ap (λ (n : ℕ). entry_passes content log.public n me found.entry) (sym at_index) ∙ found.passes;
    }

log_lacks : (round : Round) (me : ℕ) (dealings : DealingMap) (logs : LogMap) (index dealer : ℕ) → index_of me round.players ≡ Some index → has_valid round logs dealer ≡ true
    → lacks_dealing round me dealings logs dealer ≡ not (is_some (private_in round.players me dealings logs dealer))
unfolding lacks_dealing bears_ack_of
log_lacks round me dealings logs index dealer at valid =
    let h = has_log round logs dealer valid in
    let e = entry_at round dealer h.log me index h.valid at in
    let dealing = lookup dealer dealings in
    let ack_is : ack_at round.players me h.log ≡ ack_in e.entry = ap (λ (o : Option LogEntry). option_and_then ack_in o) e.is in
    let lacks : lacks_dealing round me dealings logs dealer ≡ (option_map_or (λ ack. is_ok (check_ack_of round dealer h.log.public me ack)) (ack_in e.entry) false && not (has_public h.log.public dealing)) =
    ap (λ (o : Option DealerLog). option_map_or (λ (log : DealerLog). bears_ack_of round dealer log me && not (has_public log.public dealing)) o false) h.is
    ∙ ap (λ (o : Option (List ℕ)). option_map_or (λ ack. is_ok (check_ack_of round dealer h.log.public me ack)) o false && not (has_public h.log.public dealing)) ack_is in
    let private_is : private_in round.players me dealings logs dealer ≡ private_from h.log.public dealing e.entry =
    ap (λ (o : Option DealerLog). option_and_then (private_by round.players me dealing) o) h.is ∙ ap (λ (o : Option LogEntry). option_and_then (private_from h.log.public dealing) o) e.is in
    lacks ∙ entry_lacks round dealer h.log.public me dealing index e.entry (ap (λ (o : Option ℕ). is_some o) at) e.passes ∙ ap (λ (o : Option ℕ). not (is_some o)) (sym private_is)

same_first : (p q : ℕ → Bool) (xs : List ℕ) → AllByRecursion (λ x. p x ≡ q x) xs → first_that p xs ≡ first_that q xs
same_first p q [] h = refl
same_first p q (x ∷ xs) h = ap (λ (b : Bool). cond b (Some x) (first_that p xs)) h.0 ∙ ap (λ (o : Option ℕ). cond (q x) (Some x) o) (same_first p q xs h.1)

all_lack : (round : Round) (me : ℕ) (dealings : DealingMap) (logs : LogMap) (index : ℕ) → index_of me round.players ≡ Some index → (selected : List ℕ) → AreValid round logs selected
    → AllByRecursion (λ d. lacks_dealing round me dealings logs d ≡ not (is_some (private_in round.players me dealings logs d))) selected
all_lack round me dealings logs index at [] valid = tt
all_lack round me dealings logs index at (d ∷ ds) valid = (log_lacks round me dealings logs index d at valid.0, all_lack round me dealings logs index at ds valid.1)

-- a private half isn't known exactly where a log bears the player's acknowledgement of a dealing that it lacks
pub missing_same : (round : Round) (me : ℕ) (dealings : DealingMap) (logs : LogMap) (index : ℕ) → index_of me round.players ≡ Some index → (selected : List ℕ) → AreValid round logs selected
    → first_that (lacks_dealing round me dealings logs) selected ≡ first_missing (private_in round.players me dealings logs) selected
missing_same round me dealings logs index at selected valid = same_first (lacks_dealing round me dealings logs) (λ d. not (is_some (private_in round.players me dealings logs d))) selected (all_lack round me dealings logs index at selected valid)

pub missing_is : (round : Round) (me : ℕ) (dealings : DealingMap) (logs : LogMap) (selected : List ℕ) → Contains round.players me → selected_of round logs ≡ Some selected
    → first_that (lacks_dealing round me dealings logs) selected ≡ first_missing (private_in round.players me dealings logs) selected
missing_is round me dealings logs selected c e =
    let index = found_index (index_of me round.players) (index_of-Contains me round.players c) in
    missing_same round me dealings logs index.0 index.1 selected (selected_valid round logs selected e)

-- ---- a private half is the public half's value

-- the dealings that a player holds pass its check
abbrev pub DealingsPass : Round → (me : ℕ) → DealingMap → Type 0
DealingsPass round me dealings = (dealer : ℕ) → IfSome (lookup dealer dealings) (λ d. dealing_of round me dealer d.0 d.1 ≡ Ok tt)

abbrev fine : Result (Unit {0}) DealingError
fine = Ok tt

fourth_passed : (a b c d : Bool) (first second third fourth : DealingError) → cond (not a) (Err first) (cond (not b) (Err second) (cond (not c) (Err third) (cond (not d) (Err fourth) fine))) ≡ fine → d ≡ true
fourth_passed false b c d first second third fourth e = absurd cc
fourth_passed true false c d first second third fourth e = absurd cc
fourth_passed true true false d first second third fourth e = absurd cc
fourth_passed true true true false first second third fourth e = absurd cc
fourth_passed true true true true first second third fourth e = refl

half_fits : (round : Round) (me dealer : ℕ) (public : List ℕ) (private index : ℕ) → index_of me round.players ≡ Some index → dealing_of round me dealer public private ≡ Ok tt → private ≡ value_at public (index + 1)
unfolding dealing_of
half_fits round me dealer public private index at e =
    let fits = fourth_passed (is_some (index_of dealer round.dealers)) (length public == quorum_of (length round.players)) (reshares round.previous dealer public) (fits_at (index_of me round.players) public private) UnexpectedDealer InvalidCommitmentDegree MismatchedReshareCommitment InvalidDealerShare e in
    eqb-true private (value_at public (index + 1)) (sym (ap (λ (o : Option ℕ). fits_at o public private) at) ∙ fits)

-- a dealing with the public half
dealing_known : (round : Round) (me dealer : ℕ) (public : List ℕ) (index : ℕ) → index_of me round.players ≡ Some index → (dealing : Option (List ℕ × ℕ)) → IfSome dealing (λ d. dealing_of round me dealer d.0 d.1 ≡ Ok tt)
    → is_some (option_and_then (private_with public) dealing) ≡ true → unwrap_or (option_and_then (private_with public) dealing) 0 ≡ value_at public (index + 1)
dealing_known round me dealer public index at None passes known = absurd cc
dealing_known round me dealer public index at (Some d) passes known =
    elim (cases_Bool (bytes_eq d.0 public)) [
      | inl same ↦ rw same (half_fits round me dealer d.0 d.1 index at passes ∙ ap (λ (xs : List ℕ). value_at xs (index + 1)) ((bytes_eq-Decides d.0 public).0 same))
      | inr other ↦ absurd (let none : false ≡ true = rw other at known in cc)
    ]

entry_known : (round : Round) (me dealer : ℕ) (content public : List ℕ) (index : ℕ) → index_of me round.players ≡ Some index → (dealing : Option (List ℕ × ℕ)) → IfSome dealing (λ d. dealing_of round me dealer d.0 d.1 ≡ Ok tt) → (entry : LogEntry)
    → entry_passes content public index me entry ≡ true → is_some (private_from public dealing entry) ≡ true → unwrap_or (private_from public dealing entry) 0 ≡ value_at public (index + 1)
entry_known round me dealer content public index at dealing passes (Ack ack) e known = dealing_known round me dealer public index at dealing passes known
entry_known round me dealer content public index at dealing passes (Reveal private) e known = eqb-true private (value_at public (index + 1)) e

abbrev Known : Option ℕ → List ℕ → ℕ → Type 0
Known private public x = is_some private ≡ true → unwrap_or private 0 ≡ value_at public x

log_known : (round : Round) (me dealer : ℕ) (log : DealerLog) (index : ℕ) → is_valid round dealer log ≡ true → index_of me round.players ≡ Some index → (dealing : Option (List ℕ × ℕ)) → IfSome dealing (λ d. dealing_of round me dealer d.0 d.1 ≡ Ok tt)
    → Known (private_by round.players me dealing log) log.public (index + 1)
log_known round me dealer log index valid at dealing passes known =
    let e = entry_at round dealer log me index valid at in
    let private_is : private_by round.players me dealing log ≡ private_from log.public dealing e.entry = ap (λ (o : Option LogEntry). option_and_then (private_from log.public dealing) o) e.is in
    ap (λ (o : Option ℕ). unwrap_or o 0) private_is ∙ entry_known round me dealer (ack_content round dealer log.public) log.public index at dealing passes e.entry e.passes (ap (λ (o : Option ℕ). is_some o) (sym private_is) ∙ known)

pub private_known : (round : Round) (me : ℕ) (dealings : DealingMap) (logs : LogMap) (index dealer : ℕ) → index_of me round.players ≡ Some index → DealingsPass round me dealings → has_valid round logs dealer ≡ true → Known (private_in round.players me dealings logs dealer) (public_in logs dealer) (index + 1)
private_known round me dealings logs index dealer at passes valid known =
    let h = has_log round logs dealer valid in
    let private_is : private_in round.players me dealings logs dealer ≡ private_by round.players me (lookup dealer dealings) h.log = ap (λ (o : Option DealerLog). option_and_then (private_by round.players me (lookup dealer dealings)) o) h.is in
    let public_is : public_in logs dealer ≡ h.log.public = ap (λ (o : Option DealerLog). option_map_or (λ (log : DealerLog). log.public) o []) h.is in
    ap (λ (o : Option ℕ). unwrap_or o 0) private_is
    ∙ log_known round me dealer h.log index h.valid at (lookup dealer dealings) (passes dealer) (ap (λ (o : Option ℕ). is_some o) (sym private_is) ∙ known)
    ∙ ap (λ (xs : List ℕ). value_at xs (index + 1)) (sym public_is)

-- ---- the share is the output's value

none_missing : (f : ℕ → Option ℕ) (dealers : List ℕ) → first_missing f dealers ≡ None → AllByRecursion (λ d. is_some (f d) ≡ true) dealers
none_missing f [] e = tt
none_missing f (d ∷ ds) e =
    elim (cases_Bool (is_some (f d))) [
      | inl known ↦ (known, none_missing f ds (rw known at e))
      | inr missing ↦ absurd (let some : Some d ≡ None = rw missing at e in cc)
    ]

total_of_shares : (f : ℕ → List ℕ) (g : ℕ → ℕ) (x : ℕ) (weights selected : List ℕ) → AllByRecursion (λ d. g d ≡ value_at (f d) x) selected → weighted_total (zip weights (map g selected)) ≡ weighted_shares (zip weights (map f selected)) x
total_of_shares f g x [] selected h = refl
total_of_shares f g x (w ∷ ws) [] h = refl
total_of_shares f g x (w ∷ ws) (d ∷ ds) h =
    ap (λ (v : ℕ). ((w * v) % prime + weighted_total (zip ws (map g ds))) % prime) h.0 ∙ ap (λ (t : ℕ). ((w * value_at (f d) x) % prime + t) % prime) (total_of_shares f g x ws ds h.1)

all_known : (round : Round) (me : ℕ) (dealings : DealingMap) (logs : LogMap) (index : ℕ) → index_of me round.players ≡ Some index → DealingsPass round me dealings → (selected : List ℕ) → AreValid round logs selected
    → AllByRecursion (λ d. is_some (private_in round.players me dealings logs d) ≡ true) selected → AllByRecursion (λ d. unwrap_or (private_in round.players me dealings logs d) 0 ≡ value_at (public_in logs d) (index + 1)) selected
all_known round me dealings logs index at passes [] valid known = tt
all_known round me dealings logs index at passes (d ∷ ds) valid known = (private_known round me dealings logs index d at passes valid.0 known.0, all_known round me dealings logs index at passes ds valid.1 known.1)

publics_of : (round : Round) (logs : LogMap) (selected : List ℕ) → AreValid round logs selected → AllByRecursion (λ d. length (public_in logs d) ≡ quorum_of (length round.players)) selected
publics_of round logs [] valid = tt
publics_of round logs (d ∷ ds) valid = (public_length round logs d valid.0, publics_of round logs ds valid.1)

share_fits : (round : Round) (me : ℕ) (dealings : DealingMap) (logs : LogMap) (index : ℕ) → index_of me round.players ≡ Some index → DealingsPass round me dealings → (selected : List ℕ) → AreValid round logs selected
    → first_missing (private_in round.players me dealings logs) selected ≡ None → share_of round selected (private_in round.players me dealings logs) ≡ value_at (sum_of round logs selected) (index + 1)
unfolding share_of sum_of
share_fits round me dealings logs index at passes selected valid known =
    let count = quorum_of (length round.players) in
    let weights = weights_of round.previous selected in
    let all = all_known round me dealings logs index at passes selected valid (none_missing (private_in round.players me dealings logs) selected known) in
    total_of_shares (public_in logs) (λ d. unwrap_or (private_in round.players me dealings logs d) 0) (index + 1) weights selected all
    ∙ sym (value_at-weighted_sum count (zip weights (map (public_in logs) selected)) (index + 1) (all_long count (public_in logs) weights selected (publics_of round logs selected valid)))

-- ---- the output's parts

ok_of : (r : Result Output CodecError) (o : Output) → result_ok r ≡ Some o → r ≡ Ok o
ok_of (Ok x) o e = ap (λ (y : Output). Ok y) (let s : x ≡ o = cc in s)
ok_of (Err f) o e = absurd cc

parts_of : (round : Round) (poly revealed : List ℕ) (o : Output) → output_for round poly revealed ≡ Some o → output_parts o ≡ outcome_parts round poly revealed
unfolding output_with
parts_of round poly revealed o e =
    elim (cases_Bool (keeps_key round.previous poly)) [
      | inl keeps ↦
          let p = outcome_parts round poly revealed in
          let made : result_ok (output_from p) ≡ Some o = rw keeps at e in
          parts_of_output p (do_parts_agree p) refl o (ok_of (output_from p) o made)
      | inr other ↦ absurd (let none : None ≡ Some o = rw other at e in cc)
    ]

combined_parts : (round : Round) (logs : LogMap) (selected : List ℕ) (o : Output) → combined_of round logs selected ≡ Some o → (o.players ≡ round.players) × (o.sharing.poly ≡ sum_of round logs selected)
unfolding combined_of
combined_parts round logs selected o e =
    let parts = parts_of round (sum_of round logs selected) (revealed_of round logs selected) o e in
    (ap (λ (p : OutputParts). p.1.1.1.0) parts, ap (λ (p : OutputParts). p.1.0.poly) parts)

-- ---- what is finished

abbrev pub FitsOutput : (me : ℕ) → Option (Output × ℕ) → Type 0
FitsOutput me found = IfSome found (λ f. partial_public_of f.0 me ≡ Some (share_public_of f.1))

fits_where : (round : Round) (me : ℕ) (dealings : DealingMap) (logs : LogMap) (index : ℕ) → index_of me round.players ≡ Some index → DealingsPass round me dealings → (selected : List ℕ) → AreValid round logs selected
    → (missing : Option ℕ) → first_missing (private_in round.players me dealings logs) selected ≡ missing → (output : Option Output) → combined_of round logs selected ≡ output
    → IfOk (finish_where missing output (share_of round selected (private_in round.players me dealings logs))) (FitsOutput me)
unfolding partial_public_of
fits_where round me dealings logs index at passes selected valid (Some dealer) lacks output made = tt
fits_where round me dealings logs index at passes selected valid None lacks None made = tt
fits_where round me dealings logs index at passes selected valid None lacks (Some o) made =
    let parts = combined_parts round logs selected o made in
    let here : index_of me o.players ≡ Some index = ap (index_of me) parts.0 ∙ at in
    ap (λ (p : Option ℕ). option_map (λ (n : ℕ). value_at o.sharing.poly (n + 1)) p) here
    ∙ ap (λ (xs : List ℕ). Some (value_at xs (index + 1))) parts.1
    ∙ ap (λ (n : ℕ). Some n) (sym (share_fits round me dealings logs index at passes selected valid lacks))

fits_from : (round : Round) (me : ℕ) (dealings : DealingMap) (logs : LogMap) (index : ℕ) → index_of me round.players ≡ Some index → DealingsPass round me dealings → (selected : Option (List ℕ)) → selected_of round logs ≡ selected → IfOk (finish_from round me dealings logs selected) (FitsOutput me)
unfolding finish_with
fits_from round me dealings logs index at passes None e = tt
fits_from round me dealings logs index at passes (Some selected) e =
    let valid = selected_valid round logs selected e in
    fits_where round me dealings logs index at passes selected valid (first_that (lacks_dealing round me dealings logs) selected) (sym (missing_same round me dealings logs index at selected valid)) (combined_of round logs selected) refl

-- a finished share is seen in the finished output
pub shares_fit : (round : Round) (me : ℕ) (dealings : DealingMap) (logs : LogMap) → Contains round.players me → DealingsPass round me dealings → IfOk (finish_of round me dealings logs) (FitsOutput me)
unfolding finish_of
shares_fit round me dealings logs c passes =
    let index = found_index (index_of me round.players) (index_of-Contains me round.players c) in
    fits_from round me dealings logs index.0 index.1 passes (selected_of round logs) refl

-- ---- all see the same

same_where : (missing : Option ℕ) (output : Option Output) (share : ℕ) → IfOk (finish_where missing output share) (λ found. option_map (λ f. f.0) found ≡ output)
same_where (Some dealer) output share = tt
same_where None None share = refl
same_where None (Some o) share = refl

same_from : (round : Round) (me : ℕ) (dealings : DealingMap) (logs : LogMap) (selected : Option (List ℕ)) → IfOk (finish_from round me dealings logs selected) (λ found. option_map (λ f. f.0) found ≡ option_and_then (combined_of round logs) selected)
unfolding finish_with
same_from round me dealings logs None = refl
same_from round me dealings logs (Some selected) = same_where (first_that (lacks_dealing round me dealings logs) selected) (combined_of round logs selected) (share_of round selected (private_in round.players me dealings logs))

-- who finishes sees the outcome
pub finish_agrees : (round : Round) (me : ℕ) (dealings : DealingMap) (logs : LogMap) → IfOk (finish_of round me dealings logs) (λ found. option_map (λ f. f.0) found ≡ outcome_of round logs)
unfolding finish_of outcome_of
finish_agrees round me dealings logs = same_from round me dealings logs (selected_of round logs)

-- ---- which dealing is missing

-- the first that passes a test is one of them, and passes it
pub record IsFirstPassing (test : ℕ → Bool) (dealers : List ℕ) (dealer : ℕ) : Type 0 where
  pub one_of : Contains dealers dealer
  pub passes : test dealer ≡ true

one_behind : (test : ℕ → Bool) (d : ℕ) (ds : List ℕ) (dealer : ℕ) → IsFirstPassing test ds dealer → IsFirstPassing test (d ∷ ds) dealer
one_behind test d ds dealer f = record { one_of = (suc f.one_of.0, omega (arith, f.one_of.1), f.one_of.2); passes = f.passes }

first_found : (test : ℕ → Bool) (dealers : List ℕ) (dealer : ℕ) → first_that test dealers ≡ Some dealer → IsFirstPassing test dealers dealer
first_found test [] dealer e = absurd cc
first_found test (d ∷ ds) dealer e =
    elim (cases_Bool (test d)) [
      | inl passes ↦
          let some : Some d ≡ Some dealer = rw passes at e in
          let same : d ≡ dealer = cc in
          record { one_of = (0, omega arith, same); passes = ap test (sym same) ∙ passes }
      | inr other ↦ one_behind test d ds dealer (first_found test ds dealer (rw other at e))
    ]

missing_where : (round : Round) (me : ℕ) (dealings : DealingMap) (logs : LogMap) (selected : List ℕ) (missing : Option ℕ) (output : Option Output) (share : ℕ) → first_that (lacks_dealing round me dealings logs) selected ≡ missing
    → IfErr (finish_where missing output share) (IsMissing (λ dealer log. bears_ack_of round dealer log me) dealings logs (Some selected))
unfolding lacks_dealing
missing_where round me dealings logs selected None output share e = tt
missing_where round me dealings logs selected (Some dealer) output share e =
    let first = first_found (lacks_dealing round me dealings logs) selected dealer e in
    record { dealer = dealer; is = refl; chosen = first.one_of; lacks = first.passes }

missing_from : (round : Round) (me : ℕ) (dealings : DealingMap) (logs : LogMap) (selected : Option (List ℕ))
    → IfErr (finish_from round me dealings logs selected) (IsMissing (λ dealer log. bears_ack_of round dealer log me) dealings logs selected)
unfolding finish_with
missing_from round me dealings logs None = tt
missing_from round me dealings logs (Some selected) =
    missing_where round me dealings logs selected (first_that (lacks_dealing round me dealings logs) selected) (combined_of round logs selected) (share_of round selected (private_in round.players me dealings logs)) refl

-- A round isn't finished only where the dealing of a selected log is missing.
pub missing_lacks : (round : Round) (me : ℕ) (dealings : DealingMap) (logs : LogMap) → IfErr (finish_of round me dealings logs) (IsMissing (λ dealer log. bears_ack_of round dealer log me) dealings logs (selected_of round logs))
unfolding finish_of
missing_lacks round me dealings logs = missing_from round me dealings logs (selected_of round logs)
