-- A node's opening keeps the dealings that are current, of whatever epoch it starts in, wherever it ends.
use Rattle.std.proofs.Common.{◌≡◌, ℕ, ◌+◌, ◌-◌, ◌<◌, ◌≤◌, List, [], ◌∷◌, ◌++◌, Some, refl, sym, ◌∙◌, ap, subst, length, arith, append-nil}
use Rattle.std.specs.Prelude.{fold}
use Rattle.std.specs.FinMap.{get}
use Rattle.dkg_infos.specs.declared.entry.Entry.{Entry}
use Rattle.dkg_infos.specs.declared.entry.Entry.TheVariants as entry
use Rattle.dkg_infos.specs.declared.entry.Restored.{Restored}
use Rattle.dkg_store.specs.Acts.{Held, World, Ended, went, stopped, broken, notes}
use Rattle.dkg_store.specs.Pairs.{Pairs, IsWhole}
use Rattle.dkg_store.specs.Recorded.{restored_list}
use Rattle.dkg_script.specs.Kept.{AllCurrent, Gives}
use Rattle.dkg_script.specs.Position.{begun_before}
use Rattle.dkg_script.specs.Progress.{Progress, read}
use Rattle.dkg_script.specs.Setting.{Setting}
use Rattle.dkg_core.specs.Agreeing.{AreAgreed}
use Rattle.dkg_core.specs.Fixed.{Fixed}
use Rattle.dkg_core.specs.Heard.{KeepsFrom, recovered_in}
use Rattle.dkg_core.specs.Live.{Live}
use Rattle.dkg_laws.specs.NodeKept.{BeginsRestored}
use Rattle.dkg_core.specs.Transcripts.{IfWentTo}
use Rattle.dkg_lives.proofs.Currently.{AreKept, IsGrown, IsKeptEntry, MayBeKept, RestsIn, are_opened, current_as, current_later, grown, keeps_opening, may_of, may_still}
use Rattle.dkg_lives.proofs.Heard.{IsUnchanged, Knows, each_aside, read_aside}
use Rattle.dkg_along.proofs.KeptSteps.{AnyCall, CarriesAt, IsBehindStep, IsSaved, Reaches}

-- what an opening leaves, how it ended
pub record IsOpenedBy {F Dir : Type 0} (c : Fixed Dir) (begun epoch l : ℕ) (ended : Ended F (Live Dir)) (h : Held) (s : Setting) (p q : Progress) : Type 0 where
  pub cuts : q.cuts ≡ p.cuts
  pub step : q.step ≡ p.step
  pub grown : IsGrown p.recorded q.recorded
  pub saved : IsSaved AnyCall begun h s q
  pub went : IfWentTo ended (λ end. CarriesAt c begun epoch l end h s q)

-- what it leaves of memory, where it goes to its end
pub record Opens {Dir : Type 0} (c : Fixed Dir) (epoch : ℕ) (end : Live Dir) (h : Held) (s : Setting) : Type 0 where
  pub agreed : AreAgreed end.records h
  pub behind : IsBehindStep c epoch end h s

module _ {F Dir : Type 0} (c : Fixed Dir) (b e l : ℕ) (ended : Ended F (Live Dir)) (w new : World) (s : Setting) (p : Progress) (lives : length p.cuts ≡ l) (rests : RestsIn w.held s p) (knows : Knows c s)
    -- what has begun by then: what the epoch in which it starts lets it prune is not current
    (most : ℕ) (low : most ≤ b - 1) (later : begun_before s p.cuts (length p.cuts) ≤ b) (current : b < e + 2)
    (keeps : KeepsFrom most w.held new) (gives : (key : ℕ × ℕ) (pair : List ℕ × ℕ) → get (recovered_in new.held) key ≡ Some pair → get (recovered_in w.held) key ≡ Some pair)
    (whole : IsWhole (notes new.held) new.held.secrets) (unsaid : new.out ≡ w.out → recovered_in new.held ≡ recovered_in w.held) (opens : IfWentTo ended (λ end. Opens c e end new.held s)) where
  abbrev m : Pairs
  m = recovered_in w.held

  abbrev now : Pairs
  now = recovered_in new.held

  abbrev b0 : ℕ
  b0 = begun_before s p.cuts (length p.cuts)

  -- what was given back and is current still is
  still_given : (xs : List Restored) → AllCurrent b0 (Gives m) xs → AllCurrent b (Gives now) xs
  still_given xs all = current_as b (Gives m) (Gives now) (λ x current given. keeps (x.epoch, x.dealer) (omega (arith, low, current)) ∙ given) xs (current_later b0 b (Gives m) later xs all)

  saved : (q : Progress) → AllCurrent b (Gives now) q.recorded → MayBeKept b s q now → IsSaved AnyCall b new.held s q
  saved q given may = record {
    whole = whole;
    gives = given;
    at_cut = λ step call here any. may_still b b s q (read s q (entry.Cut step call)) (Some (record { step = step; call = call })) now (omega arith) refl refl refl may;
  }

  -- it said nothing
  unopened : new.out ≡ w.out → IfWentTo ended (λ end. ⊥) → IsOpenedBy c b e l ended new.held s p p
  unopened silent not = record { cuts = refl; step = refl; grown = λ pair there. there; saved = saved p (still_given p.recorded rests.may.given) may; went = by_end ended not }
    where
      may : MayBeKept b s p now
      may = record {
        given = still_given p.recorded rests.may.given;
        known = λ pair given. rests.may.known pair (gives (pair.epoch, pair.dealer) (pair.public, pair.private) given);
        first = λ none. unsaid silent ∙ rests.may.first none;
      }

      by_end : (its : Ended F (Live Dir)) → IfWentTo its (λ end. ⊥) → IfWentTo its (λ end. CarriesAt c b e l end new.held s p)
      by_end (went end) not = absurd not
      by_end (stopped fault) not = tt
      by_end (broken cause) not = tt

  abbrev first : Entry
  first = entry.Opened l (restored_list m)

  abbrev behind : Progress
  behind = read s p first

  same_first : (its : ℕ) (xs : List Restored) → its ≡ l → xs ≡ restored_list m → entry.Opened its xs ≡ first
  same_first its xs is are = ap (λ (n : ℕ). entry.Opened n xs) is ∙ ap (λ (ys : List Restored). entry.Opened l ys) are

  -- it listed what the devices give back
  opened : (lines : List Entry) (q : Progress) → IsUnchanged behind q → IsOpenedBy c b e l ended new.held s p q
  opened lines q same = record {
    cuts = same.cuts;
    step = same.step;
    grown = λ pair there. rw same.recorded (grown s p first pair there);
    saved = saved q are.given (may_of b s q l now opened_is are);
    went = by_end ended opens;
  }
    where
      listed_are : AreKept b0 m behind.recorded
      listed_are = are_opened b0 s p m rests.may l

      are : AreKept b now q.recorded
      are = rw same.recorded (record { given = still_given behind.recorded listed_are.given; known = λ pair given. listed_are.known pair (gives (pair.epoch, pair.dealer) (pair.public, pair.private) given) })

      opened_is : q.opened ≡ Some l
      opened_is = same.opened ∙ ap (λ (n : ℕ). Some n) lives

      by_end : (its : Ended F (Live Dir)) → IfWentTo its (λ end. Opens c e end new.held s) → IfWentTo its (λ end. CarriesAt c b e l end new.held s q)
      by_end (went end) its = record {
        half = record { knows = knows; agreed = its.agreed; are = are; current = current; in_round = its.behind.in_round; valid = its.behind.valid };
        opened = opened_is;
        live = its.behind.live;
        active = its.behind.active;
      }
      by_end (stopped fault) its = tt
      by_end (broken cause) its = tt

  pub opening_kept : (lines : List Entry) → new.out ≡ w.out ++ lines → BeginsRestored l (restored_list (recovered_in w.held)) lines ended → Reaches s p w.out new.out (IsOpenedBy c b e l ended new.held s p)
  opening_kept lines out begins = by_entries lines out ended begins unopened opened
    where
      by_entries : (lines : List Entry) → new.out ≡ w.out ++ lines → (its : Ended F (Live Dir)) → BeginsRestored l (restored_list m) lines its
          → (new.out ≡ w.out → IfWentTo its (λ end. ⊥) → IsOpenedBy c b e l ended new.held s p p) → ((lines : List Entry) (q : Progress) → IsUnchanged behind q → IsOpenedBy c b e l ended new.held s p q)
          → Reaches s p w.out new.out (IsOpenedBy c b e l ended new.held s p)
      by_entries [] out (went end) begins none some = absurd begins
      by_entries [] out (stopped fault) begins none some = absurd begins
      by_entries [] out (broken cause) begins none some = record { added = []; out = out; each = tt; to = none (out ∙ append-nil w.out) tt }
      by_entries (entry.Opened its listed_by ∷ lines) out ended begins none some = record {
        added = entry.Opened its listed_by ∷ lines;
        out = out;
        each = (subst (λ (xs : List Restored). IsKeptEntry s p (entry.Opened its xs)) (sym begins.1) (keeps_opening b0 s p m rests.may refl its), each_aside s lines (read s p (entry.Opened its listed_by)) begins.2);
        to = some lines (fold (read s) (read s p (entry.Opened its listed_by)) lines)
            (subst (λ (one : Entry). IsUnchanged behind (fold (read s) (read s p one) lines)) (sym (same_first its listed_by begins.0 begins.1)) (read_aside s lines behind begins.2));
      }
      by_entries (other ∷ lines) out ended begins none some = absurd begins
