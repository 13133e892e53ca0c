-- One key over the epochs of a chain: an outcome keeps the constant coefficient of the output that it was dealt from.
use Rattle.std.proofs.Common.{◌≡◌, inl, inr, ℕ, true, List, [], ◌∷◌, Option, Some, None, Result, Ok, Err, refl, sym, ap, ◌∙◌}
use Rattle.std.specs.Prelude.{zero, suc, length, nat_lt, option_and_then, slice_get}
use Rattle.std.specs.Result.{result_ok}
use Rattle.std.proofs.lemmas.Bool.{cases_Bool, eqb-true}
use Rattle.dkg_values.specs.declared.codec.CodecError.{CodecError}
use Rattle.dkg_ceremony.specs.declared.output.Output.{Output}
use Rattle.dkg_ceremony.specs.declared.round.RoundParts.{RoundParts as Round}
use Rattle.dkg_ceremony.specs.Outputs.{OutputParts, do_parts_agree, output_from}
use Rattle.dkg_ceremony.specs.OutputGrammar.{parts_of_output}
use Rattle.dkg_ceremony.specs.Outcomes.{LogMap, begin_alike, keeps_key, outcome_parts, output_with, output_for, revealed_of, selected_of, sum_of, combined_of, outcome_of}
use Rattle.dkg_types.specs.declared.scheme.SchemeInfo.{SchemeInfo}
use Rattle.dkg_ceremony.specs.declared.sharing.Sharing.{Sharing}
use Rattle.dkg_sign.specs.Chains.{HoldsOf, IsNextOutput, IsChain, ShareOneKey}
use Rattle.dkg_sign.specs.Desks.{Desk, material_of}
use Rattle.dkg_sign.specs.Materials.{scheme_key, sharing_of}
use Rattle.dkg_sign.specs.Signing.{hash_of, signature_of, times}
use Rattle.dkg_sign.specs.Signs.{combine_of, combine_with, combine_unless, combine_enough, fault_from}
use Rattle.dkg_sign.specs.declared.error.CombineError.{CombineError}
use Rattle.dkg_sign.specs.declared.error.CombineError.TheVariants.{Few}
use Rattle.dkg_ceremony.specs.Thresholds.{quorum_of}
use Rattle.dkg_sign.specs.declared.partial.Partial.{Partial}
use Rattle.dkg_sign.specs.declared.partial.Signature.{Signature}

ok_is : (r : Result Output CodecError) (o : Output) → result_ok r ≡ Some o → r ≡ Ok o
ok_is (Ok x) o e = ap (λ (y : Output). Ok y) (let s : x ≡ o = cc in s)
ok_is (Err f) o e = absurd cc

alike : (xs ys : List ℕ) → begin_alike xs ys ≡ true → scheme_key xs ≡ scheme_key ys
alike (x ∷ xs) (y ∷ ys) e = eqb-true x y e
alike [] ys e = absurd cc
alike (x ∷ xs) [] e = absurd cc

poly_of : (round : Round) (poly revealed : List ℕ) (o : Output) → output_with round poly revealed ≡ Some o → o.sharing.poly ≡ poly
unfolding output_with
poly_of round poly revealed o made =
    let p = outcome_parts round poly revealed in
    let parts = parts_of_output p (do_parts_agree p) refl o (ok_is (output_from p) o made) in
    ap (λ (q : OutputParts). q.1.0.poly) parts

key_kept : (round : Round) (before : Output) (poly revealed : List ℕ) (o : Output) → round.previous ≡ Some before → output_for round poly revealed ≡ Some o → scheme_key o.sharing.poly ≡ scheme_key before.sharing.poly
key_kept round before poly revealed o was e =
    elim (cases_Bool (keeps_key round.previous poly)) [
      | inl keeps ↦
          let same : begin_alike poly before.sharing.poly ≡ true = sym (ap (λ (b : Option Output). keeps_key b poly) was) ∙ keeps in
          ap scheme_key (poly_of round poly revealed o (rw keeps at e)) ∙ alike poly before.sharing.poly same
      | inr other ↦ absurd (let none : None ≡ Some o = rw other at e in cc)
    ]

kept_by : (round : Round) (logs : LogMap) (selected : Option (List ℕ)) (before o : Output) → round.previous ≡ Some before → option_and_then (combined_of round logs) selected ≡ Some o → scheme_key o.sharing.poly ≡ scheme_key before.sharing.poly
unfolding combined_of
kept_by round logs None before o was e = absurd cc
kept_by round logs (Some selected) before o was e = key_kept round before (sum_of round logs selected) (revealed_of round logs selected) o was e

-- an outcome keeps the key
pub outcome_keeps : (round : Round) (logs : LogMap) (before o : Output) → round.previous ≡ Some before → outcome_of round logs ≡ Some o → scheme_key o.sharing.poly ≡ scheme_key before.sharing.poly
unfolding outcome_of
outcome_keeps round logs before o was e = kept_by round logs (selected_of round logs) before o was e

step_keeps : (before o : Output) → IsNextOutput before o → scheme_key o.sharing.poly ≡ scheme_key before.sharing.poly
step_keeps before o (inl same) = ap (λ (x : Output). scheme_key x.sharing.poly) same
step_keeps before o (inr new) = outcome_keeps new.0 new.1 before o new.2 new.3

-- all outputs of a chain share one key
pub chain_keeps : (first : Output) (outputs : List Output) → IsChain first outputs → (i : ℕ) (last : Output) → slice_get outputs i ≡ Some last → scheme_key last.sharing.poly ≡ scheme_key first.sharing.poly
chain_keeps first [] chain i last at = absurd cc
chain_keeps first (o ∷ os) chain zero last at = (let here : o ≡ last = cc in ap (λ (x : Output). scheme_key x.sharing.poly) (sym here)) ∙ step_keeps first o chain.0
chain_keeps first (o ∷ os) chain (suc i) last at = chain_keeps o os chain.1 i last at ∙ step_keeps first o chain.0

-- ---- a combined signature

enough_value : (info : SchemeInfo) (epoch : ℕ) (message : List ℕ) (got : ℕ) (s : Signature) → combine_enough info epoch message got ≡ Ok s → s.value ≡ signature_of (sharing_of info) message
enough_value info epoch message got s e = elim (cases_Bool (nat_lt got (quorum_of (sharing_of info).total))) [
  | inl few ↦ absurd (let no : ◌≡◌ {A = Result Signature CombineError} (Err (Few got (quorum_of (sharing_of info).total))) (Ok s) = rw few at e in cc)
  | inr enough ↦
      let made : ◌≡◌ {A = Result Signature CombineError} (Ok (record { epoch = epoch; value = signature_of (sharing_of info) message })) (Ok s) = rw enough at e in
      let one : record { epoch = epoch; value = signature_of (sharing_of info) message } ≡ s = cc in
      ap (λ (x : Signature). x.value) (sym one)
]

unless_value : (fault : Option CombineError) (info : SchemeInfo) (epoch : ℕ) (message : List ℕ) (got : ℕ) (s : Signature) → combine_unless fault info epoch message got ≡ Ok s → s.value ≡ signature_of (sharing_of info) message
unless_value (Some f) info epoch message got s e = absurd cc
unless_value None info epoch message got s e = enough_value info epoch message got s e

-- a signature is its material's
combined_value : (desk : Desk) (message : List ℕ) (epoch : ℕ) (partials : List Partial) (s : Signature) (info : SchemeInfo) → material_of desk epoch ≡ Some info → combine_of desk message epoch partials ≡ Ok s → s.value ≡ signature_of (sharing_of info) message
combined_value desk message epoch partials s info held e =
    unless_value (fault_from info epoch (hash_of message) [] 0 partials) info epoch message (length partials) s (sym (ap (λ (o : Option SchemeInfo). combine_with o epoch message partials) held) ∙ e)

pub one_value : (one other : Desk) (message : List ℕ) (epoch later : ℕ) (partials partials' : List Partial) (s t : Signature) → ShareOneKey one epoch other later → combine_of one message epoch partials ≡ Ok s → combine_of other message later partials' ≡ Ok t → s.value ≡ t.value
one_value one other message epoch later partials partials' s t key of_one of_other =
    combined_value one message epoch partials s key.info key.held of_one ∙ ap (times (hash_of message)) key.same ∙ sym (combined_value other message later partials' t key.info' key.held' of_other)

-- ---- one signature along a chain

in_chain : (first : Output) (outputs : List Output) → IsChain first outputs → (i : ℕ) (a : Output) → slice_get (first ∷ outputs) i ≡ Some a → scheme_key a.sharing.poly ≡ scheme_key first.sharing.poly
in_chain first outputs chain zero a at = let here : first ≡ a = cc in ap (λ (x : Output). scheme_key x.sharing.poly) (sym here)
in_chain first outputs chain (suc i) a at = chain_keeps first outputs chain i a at

share_one : (one : Desk) (epoch : ℕ) (other : Desk) (later : ℕ) (a b : Sharing) → HoldsOf one epoch a → HoldsOf other later b → scheme_key a.poly ≡ scheme_key b.poly → ShareOneKey one epoch other later
share_one one epoch other later a b held held' same = record {
  info = held.0;
  info' = held'.0;
  held = held.1;
  held' = held'.1;
  same = ap (λ (s : Sharing). scheme_key s.poly) held.2 ∙ same ∙ sym (ap (λ (s : Sharing). scheme_key s.poly) held'.2);
}

pub chain_value : (first : Output) (outputs : List Output) → IsChain first outputs → (i j : ℕ) (a b : Output) → slice_get (first ∷ outputs) i ≡ Some a → slice_get (first ∷ outputs) j ≡ Some b
    → (one other : Desk) (epoch later : ℕ) → HoldsOf one epoch a.sharing → HoldsOf other later b.sharing → (message : List ℕ) (partials partials' : List Partial) (s t : Signature)
    → combine_of one message epoch partials ≡ Ok s → combine_of other message later partials' ≡ Ok t → s.value ≡ t.value
chain_value first outputs chain i j a b at_a at_b one other epoch later held held' message partials partials' s t of_one of_other =
    let key : scheme_key a.sharing.poly ≡ scheme_key b.sharing.poly = in_chain first outputs chain i a at_a ∙ sym (in_chain first outputs chain j b at_b) in
    one_value one other message epoch later partials partials' s t (share_one one epoch other later a.sharing b.sharing held held' key) of_one of_other
