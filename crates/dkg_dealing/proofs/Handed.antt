-- What a player told of a dealing that it was handed.
use Rattle.std.proofs.Common.{◌≡◌, ◌++◌, ◌∷◌, [], ℕ, List, Option, Some, None, is_some, Result, Ok, Err, refl, sym, ◌∙◌, ap, subst, append-nil}
use Rattle.std.specs.Prelude.{if◌then◌else◌}
use Rattle.std.specs.FinMap.{FinMap, get, insert}
use Rattle.std.specs.Ordering.{nat_cmp}
use Rattle.dkg_ceremony.specs.declared.ceremony.DealingError.{DealingError}
use Rattle.dkg_ceremony.specs.declared.round.RoundParts.{RoundParts as Round}
use Rattle.dkg_infos.specs.declared.entry.Entry.{Entry}
use Rattle.dkg_infos.specs.declared.entry.Entry.TheVariants.{Recorded}
use Rattle.dkg_infos.specs.declared.fault.Fault.{Fault}
use Rattle.dkg_store.specs.Acts.{Acts, went, under}
use Rattle.dkg_store.specs.Calls.{answering}
use Rattle.dkg_store.specs.Pairs.{Pairs}
use Rattle.dkg_store.specs.Player.{Acknowledges, IsPlayerOf}
use Rattle.dkg_secrets.proofs.Map.{keys_total, exact_keys, get_here}
use Rattle.dkg_journal.specs.Names.{Files}
use Rattle.dkg_journal.specs.declared.journal.Journal.{Journal}
use Rattle.dkg_store.specs.declared.player.Player.{Player}
use Rattle.dkg_store.specs.declared.store.Store.{Store}
use Rattle.dkg_life.specs.Heard.{pairs_after}
use Rattle.dkg_life.specs.LiveOf.{SitsAt, SitsIn}
use Rattle.dkg_life.specs.Moved.{IsFirm}
use Rattle.dkg_life.specs.Ends.{fault_of_store}
use Rattle.dkg_core.specs.Said.{Said}

same_pair : (v w : List ℕ × ℕ) → ◌≡◌ {A = Option (List ℕ × ℕ)} (Some v) (Some w) → v ≡ w
same_pair v w e = cc

module _ (ack_of : ℕ → Round → ℕ → List ℕ → List ℕ) (me : ℕ) (round : Round) (epoch dealer : ℕ) (public : List ℕ) (private : ℕ) (check : Result (Unit {0}) DealingError) (pairs : Pairs) where
  abbrev its : Option (List ℕ × ℕ) → Result (Unit {0}) DealingError → Acts Fault (Result (List ℕ) DealingError)
  its known passed = under fault_of_store (answering (ack_of me round dealer) known passed epoch dealer public private)

  -- it answered by an acknowledgement
  pub handed_said : (ack : List ℕ) (new : Pairs) {out now : List Entry} → Acknowledges ack_of me round new epoch dealer ack
      → (get pairs (epoch, dealer) ≡ None → check ≡ Ok tt)
      → new ≡ (if is_some (get pairs (epoch, dealer)) then pairs else insert pairs (epoch, dealer) (public, private))
      → now ≡ (if is_some (get pairs (epoch, dealer)) then out else out ++ Recorded epoch dealer public private ∷ [])
      → Said (its (get pairs (epoch, dealer)) check) (went (Ok ack)) out now
  handed_said ack new {out} {now} answer checked kept told = by_pair (get pairs (epoch, dealer)) refl checked kept told
    where
      by_pair : (known : Option (List ℕ × ℕ)) → get pairs (epoch, dealer) ≡ known → (known ≡ None → check ≡ Ok tt)
          → new ≡ (if is_some known then pairs else insert pairs (epoch, dealer) (public, private))
          → now ≡ (if is_some known then out else out ++ Recorded epoch dealer public private ∷ [])
          → Said (its known check) (went (Ok ack)) out now
      by_pair (Some pair) is checked same silent =
          let p : answer.pair ≡ pair = same_pair answer.pair pair (sym answer.recorded ∙ ap (λ (m : Pairs). get m (epoch, dealer)) same ∙ is) in
          record {
            lines = [];
            added = silent ∙ sym (append-nil out);
            by = (refl, ap (λ (x : List ℕ). Ok x) (answer.is ∙ ap (λ (q : List ℕ × ℕ). ack_of me round dealer q.0) p));
          }
      by_pair None is checked more told =
          let p : answer.pair ≡ (public, private) = same_pair answer.pair (public, private) (sym answer.recorded ∙ ap (λ (m : Pairs). get m (epoch, dealer)) more ∙ get_here keys_total exact_keys pairs (epoch, dealer) (public, private)) in
          subst (λ (x : Result (Unit {0}) DealingError). Said (its None x) (went (Ok ack)) out now) (sym (checked refl)) (record {
            lines = Recorded epoch dealer public private ∷ [];
            added = told;
            by = ([], refl, (refl, ap (λ (x : List ℕ). Ok x) (answer.is ∙ ap (λ (q : List ℕ × ℕ). ack_of me round dealer q.0) p)));
          })

  -- It refused it.
  pub refused_said : (e : DealingError) {out now : List Entry} → get pairs (epoch, dealer) ≡ None → check ≡ Err e → now ≡ out
      → Said (its (get pairs (epoch, dealer)) check) (went (Err e)) out now
  refused_said e {out} {now} none refused same =
      subst (λ (k : Option (List ℕ × ℕ)). Said (its k check) (went (Err e)) out now) (sym none)
      (subst (λ (x : Result (Unit {0}) DealingError). Said (its None x) (went (Err e)) out now) (sym refused)
      (record { lines = []; added = same ∙ sym (append-nil out); by = (refl, refl) }))

-- a player of its own round's epoch
pub plays_at : (ack_of : ℕ → Round → ℕ → List ℕ → List ℕ) (me its epoch number : ℕ) (round : Round) (acks : FinMap nat_cmp (List ℕ)) (pairs : Pairs) → its ≡ me → epoch ≡ number
    → IsPlayerOf ack_of me round acks pairs number → IsPlayerOf ack_of its round acks pairs epoch
plays_at ack_of me its epoch number round acks pairs mine same is =
    subst (λ (k : ℕ). IsPlayerOf ack_of k round acks pairs epoch) (sym mine) (subst (λ (n : ℕ). IsPlayerOf ack_of me round acks pairs n) (sym same) is)

-- WHAT IT LEAVES IN MEMORY

pub pairs_kept : (known : Option (List ℕ × ℕ)) (check : Result (Unit {0}) DealingError) (key : ℕ × ℕ) (pair : List ℕ × ℕ) (pairs new : Pairs) → new ≡ (if is_some known then pairs else insert pairs key pair)
    → (known ≡ None → check ≡ Ok tt) → new ≡ pairs_after known check key pair pairs
pairs_kept (Some kept) check key pair pairs new is passed = is
pairs_kept None check key pair pairs new is passed = is ∙ ap (λ (c : Result (Unit {0}) DealingError). pairs_after None c key pair pairs) (sym (passed refl))

pub pairs_refused : (known : Option (List ℕ × ℕ)) (check : Result (Unit {0}) DealingError) (key : ℕ × ℕ) (pair : List ℕ × ℕ) (pairs new : Pairs) (e : DealingError) → new ≡ pairs → known ≡ None → check ≡ Err e
    → new ≡ pairs_after known check key pair pairs
pairs_refused known check key pair pairs new e is none refused =
    is
    ∙ ap (λ (c : Result (Unit {0}) DealingError). pairs_after None c key pair pairs) (sym refused)
    ∙ ap (λ (o : Option (List ℕ × ℕ)). pairs_after o check key pair pairs) (sym none)

-- A player sits in the round of this epoch, ..
pub plays_there : {Dir : Type 0} (ack_of : ℕ → Round → ℕ → List ℕ → List ℕ) (me epoch : ℕ) (store : Store Dir) (player : Player) → SitsAt ack_of me epoch store player
    → IsPlayerOf ack_of player.me player.round player.acks store.dealings epoch
plays_there ack_of me epoch store player at = plays_at ack_of me player.me epoch player.round.number player.round player.acks store.dealings at.sits.me_is at.number at.sits.kept

-- .. and keeps its seat.
module _ {Dir : Type 0} (ack_of : ℕ → Round → ℕ → List ℕ → List ℕ) (me epoch : ℕ) (old new : Store Dir) (player now : Player) (at : SitsAt ack_of me epoch old player) where
  pub seat_kept : now.me ≡ player.me → now.round ≡ player.round → IsPlayerOf ack_of now.me now.round now.acks new.dealings epoch → SitsIn ack_of me new player.round now
  seat_kept same_me same_round kept = record {
    me_is = same_me ∙ at.sits.me_is;
    round_is = same_round;
    plays = at.sits.plays;
    kept =
        subst (λ (n : ℕ). IsPlayerOf ack_of me player.round now.acks new.dealings n) at.number
        (subst (λ (r : Round). IsPlayerOf ack_of me r now.acks new.dealings epoch) same_round
        (subst (λ (k : ℕ). IsPlayerOf ack_of k now.round now.acks new.dealings epoch) (same_me ∙ at.sits.me_is) kept));
  }

-- a journal that is as it was, on a disk that is
pub firm_same : {D : Type 0} (files : D → Files) (image : D → Files → Type 0) (was now : Journal) (a b : D) → now ≡ was → b ≡ a → IsFirm was (files a) (image a) → IsFirm now (files b) (image b)
firm_same {D} files image was now a b same_journal same_disk firm =
    subst (λ (j : Journal). IsFirm j (files b) (image b)) (sym same_journal) (subst (λ (d : D). IsFirm was (files d) (image d)) (sym same_disk) firm)
