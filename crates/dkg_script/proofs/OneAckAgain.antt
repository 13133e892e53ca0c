-- What keeping the dealings means for a dealer over two runs: the second finds what the first acknowledged, and answers as it did.
use Rattle.std.proofs.Common.{ℕ, List, [], ◌∷◌, ◌≡◌, refl, sym, ◌∙◌, ap, subst, Option, Some, None, Bool, true, false}
use Rattle.std.specs.Prelude.{cond, option_map, nat_eq, unwrap_or, ◌&&◌}
use Rattle.std.proofs.lemmas.Bool.{eqb-true}
use Rattle.dkg_ceremony.specs.Acks.{ack_of}
use Rattle.dkg_ceremony.specs.declared.round.RoundParts.{RoundParts as Round}
use Rattle.dkg_journal.specs.Names.{Files}
use Rattle.dkg_store.specs.Pairs.{Pairs}
use Rattle.dkg_store.specs.Recorded.{restored_list, restored_of}
use Rattle.dkg_secrets.specs.Secrets.{Secrets}
use Rattle.dkg_infos.specs.declared.entry.Entry.TheVariants.{Ack}
use Rattle.dkg_infos.specs.declared.entry.Restored.{Restored}
use Rattle.dkg_script.specs.Kept.{Gives}
use Rattle.dkg_script.specs.Laws.{AcknowledgesOnceAgain, StandsFor}
use Rattle.dkg_script.specs.Progress.{at_start, has_pair_key, pair_of, progress}
use Rattle.dkg_script.specs.Setting.{me, recovered_from}
use Rattle.dkg_script.proofs.Listed.{pair_of-restored_list}
use Rattle.dkg_script.proofs.OneAck.{of_sound, stays_along}
use Rattle.dkg_script.proofs.Survives.{survives}

both : (a b : Bool) → (a && b) ≡ true → (a ≡ true) × (b ≡ true)
both true b e = (refl, e)
both false b e = absurd (let wrong : false ≡ true = e in cc)

not_found : (x : Restored) → None ≡ Some x → ⊥
not_found x e = cc

-- what is found has the key that was asked
its_key : (xs : List Restored) (epoch dealer : ℕ) (x : Restored) → pair_of xs epoch dealer ≡ Some x → (x.epoch ≡ epoch) × (x.dealer ≡ dealer)
its_key [] epoch dealer x e = absurd (not_found x e)
its_key (y ∷ xs) epoch dealer x e = by_key (its_key xs epoch dealer x) (has_pair_key epoch dealer y) refl e
  where
    by_key : (pair_of xs epoch dealer ≡ Some x → (x.epoch ≡ epoch) × (x.dealer ≡ dealer)) → (b : Bool) → has_pair_key epoch dealer y ≡ b → cond b (Some y) (pair_of xs epoch dealer) ≡ Some x
        → (x.epoch ≡ epoch) × (x.dealer ≡ dealer)
    by_key later true has e =
        let parts = both (nat_eq y.epoch epoch) (nat_eq y.dealer dealer) has in
        subst (λ (z : Restored). (z.epoch ≡ epoch) × (z.dealer ≡ dealer)) (ap (λ (o : Option Restored). unwrap_or o y) e) (eqb-true y.epoch epoch parts.0, eqb-true y.dealer dealer parts.1)
    by_key later false has e = later e

-- what devices give back is listed under its key
is_listed : (m : Pairs) (epoch dealer : ℕ) (x : Restored) → x.epoch ≡ epoch → x.dealer ≡ dealer → Gives m x → pair_of (restored_list m) epoch dealer ≡ Some x
is_listed m epoch dealer x e d gives =
    subst (λ (n : ℕ). pair_of (restored_list m) n dealer ≡ Some x) e (subst (λ (n : ℕ). pair_of (restored_list m) x.epoch n ≡ Some x) d
    (pair_of-restored_list m x.epoch x.dealer ∙ ap (option_map (λ v. restored_of ((x.epoch, x.dealer), v))) gives))

same_some : {X : Type 0} (x y : X) → Some x ≡ Some y → x ≡ y
same_some x y e = ap (λ o. unwrap_or o x) e

pub one_ack_again : {D : Type 0} (image : D → Files → Type 0) → AcknowledgesOnceAgain image
unfolding progress
one_ack_again image s t out next disk disk_now secrets secrets_now kept kept_next epoch dealer on current before after first rest one other is is_next =
    let its = survives image s out disk secrets kept before after epoch dealer one is current t.files on.files in
    let a : StandsFor s (progress s before) epoch dealer one = its.0 in
    let key = its_key (progress s before).recorded epoch dealer a.pair a.recorded in
    let found : pair_of (restored_list (recovered_from t.files t.secrets)) epoch dealer ≡ Some a.pair = subst (λ (x : Secrets). pair_of (restored_list (recovered_from t.files x)) epoch dealer ≡ Some a.pair) (sym on.secrets_are)
    (is_listed (recovered_from t.files secrets) epoch dealer a.pair key.0 key.1 its.1) in
    let still : pair_of (progress t first).recorded epoch dealer ≡ Some a.pair = stays_along t first (at_start t) a.pair epoch dealer found in
    let b : StandsFor t (progress t first) epoch dealer other = of_sound t (progress t first) epoch dealer other (kept_next.each first (Ack epoch dealer other) rest is_next) in
    let pair : a.pair ≡ b.pair = same_some a.pair b.pair (sym still ∙ b.recorded) in
    let round : a.round ≡ b.round = on.one_round a.round b.round a.round_is b.round_is in
    a.ack_is
    ∙ ap (λ (n : ℕ). ack_of n a.round dealer a.pair.public) (sym on.node)
    ∙ ap (λ (r : Round). ack_of (me t) r dealer a.pair.public) round
    ∙ ap (λ (x : Restored). ack_of (me t) b.round dealer x.public) pair
    ∙ sym b.ack_is
