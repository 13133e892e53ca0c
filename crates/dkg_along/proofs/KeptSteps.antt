-- A node's step of a message or a block keeps the dealings that are current, in a life over many epochs, wherever it ends.
use Rattle.std.proofs.Common.{◌≡◌, ◌⊎◌, inl, inr, ℕ, zero, suc, ◌+◌, ◌-◌, ◌<◌, ◌≤◌, List, [], ◌∷◌, ◌++◌, true, Option, Some, None, refl, sym, ◌∙◌, ap, subst, length, arith, append_assoc, append-nil}
use Rattle.std.specs.Prelude.{fold, Ok, ◌^◌}
use Rattle.std.specs.FinMap.{get}
use Rattle.std.specs.List.{AllByRecursion, list_any}
use Rattle.std.specs.Option.{option_or}
use Rattle.std.proofs.lemmas.List.{append_cancel_left}
use Rattle.std.proofs.lemmas.List.Folds.{list_any-append}
use Rattle.std.proofs.lemmas.List.Sums.{fold-append}
use Rattle.dkg_ceremony.specs.Dealings.{dealing_of}
use Rattle.dkg_ceremony.specs.declared.round.RoundParts.{RoundParts as Round}
use Rattle.dkg_types.specs.Blocks.{Block}
use Rattle.dkg_infos.specs.declared.entry.Entry.{Entry}
use Rattle.dkg_infos.specs.declared.entry.Entry.TheVariants as entry
use Rattle.dkg_infos.specs.declared.entry.Restored.{Restored}
use Rattle.dkg_infos.specs.declared.fault.Fault.{Fault}
use Rattle.dkg_text.specs.declared.script.Event.TheVariants.{Peer as FromPeer, Final}
use Rattle.dkg_text.specs.declared.script.Life.{Life}
use Rattle.dkg_store.specs.Acts.{Cause, Held, World, Ended, went, stopped, broken, notes}
use Rattle.dkg_store.specs.Pairs.{Pairs, IsWhole}
use Rattle.dkg_store.proofs.Acts.{along_runs}
use Rattle.dkg_script.specs.Blocks.{round_at}
use Rattle.dkg_script.specs.Due.{is_ack}
use Rattle.dkg_script.specs.Kept.{AllCurrent, Gives, IsBroughtAtCut, IsBroughtNow}
use Rattle.dkg_script.specs.Position.{awaited_epoch, cut_of, event_of_step}
use Rattle.dkg_script.specs.Progress.{Progress, read, pair_of, with_restored, IsBrought}
use Rattle.dkg_script.specs.Setting.{Setting, CutAt, life_at, me}
use Rattle.dkg_script.proofs.EachEntry.{EachAfter}
use Rattle.dkg_core.specs.Courses.{EndsSo, on_devices}
use Rattle.dkg_core.specs.Fixed.{Fixed}
use Rattle.dkg_core.specs.Live.{Live, NodeStop, Faulted, Mail, Message, Mailed, Peer, Finalized, Delivers, with_inclusion}
use Rattle.dkg_core.specs.Core.{step}
use Rattle.dkg_core.specs.Node.{node_step}
use Rattle.dkg_core.specs.Agreeing.{AreAgreed, CanRecord}
use Rattle.dkg_core.specs.Behind.{EndsBehind, IsAside, IsSameBeside, RunsBehind, event_of}
use Rattle.dkg_laws.specs.BlocksKept.{IsLineOfBlock, IsKeptBehind}
use Rattle.dkg_core.specs.Enduring.{IsKeptFrom, IsSaidFrom}
use Rattle.dkg_core.specs.Endings.{CameTo}
use Rattle.dkg_core.specs.Forms.{Judged, Refusal, Passed, Applied, IsForm, judged_block}
use Rattle.dkg_core.specs.Heard.{recovered_in}
use Rattle.dkg_laws.specs.Idle.{IsAskedEntry, LeavesIdle}
use Rattle.dkg_core.specs.Laws.{IsOther, IsDealtToItself, IsOffered, reach_of}
use Rattle.dkg_laws.specs.NodeThrough.{IsActiveThrough}
use Rattle.dkg_core.specs.Through.{IsLiveThrough}
use Rattle.dkg_core.specs.Transcripts.{IfWentTo}
use Rattle.dkg_core.proofs.Agreeing.{steps_agree}
use Rattle.dkg_core.proofs.Behind.{steps_run_behind}
use Rattle.dkg_laws.proofs.BlocksKept.{blocks_keep}
use Rattle.dkg_laws.proofs.Enduring.{steps_keep}
use Rattle.dkg_laws.proofs.Idle.{mails_are_idle}
use Rattle.dkg_lives.specs.Epochs.{any_shares}
use Rattle.dkg_lives.proofs.BlocksLeave.{AreTold, gives_before, gives_no_other, says_aside, tells_own}
use Rattle.dkg_lives.proofs.Currently.{AreKept, IsGrown, IsKeptEntry, MayBeKept, current_as, current_later, current_with, found_current, grown, grown_all, may_of, may_still}
use Rattle.dkg_lives.proofs.Heard.{Carries, IsHeard, IsSameStep, IsUnchanged, ValidAt, each_aside, heard, own_found, read_aside}
use Rattle.dkg_lives.proofs.NoOthers.{IsOwnDealt, IsToldSince}
use Rattle.dkg_lives.proofs.PeerForms.{IsUndue}
use Rattle.dkg_lives.proofs.Recorded.{gives_one, restored_at, with_pair_finds}
use Rattle.dkg_along.proofs.Seated.{own_valid}

-- ENTRIES, one behind another

pub each_both : (s : Setting) (E : Progress → Entry → Type 0) (xs ys : List Entry) (p : Progress) → EachAfter s E p xs → EachAfter s E (fold (read s) p xs) ys → EachAfter s E p (xs ++ ys)
each_both s E [] ys p each more = more
each_both s E (x ∷ xs) ys p each more = (each.0, each_both s E xs ys (read s p x) each.1 more)

-- What was added is kept, and then Q holds.
pub record Reaches (s : Setting) (p : Progress) (old new : List Entry) (Q : Progress → Type 0) : Type 0 where
  pub added : List Entry
  pub out : new ≡ old ++ added
  pub each : EachAfter s (IsKeptEntry s) p added
  pub to : Q (fold (read s) p added)

pub reaches_none : (s : Setting) (p : Progress) (old new : List Entry) (Q : Progress → Type 0) → new ≡ old → Q p → Reaches s p old new Q
reaches_none s p old new Q same to = record { added = []; out = same ∙ sym (append-nil old); each = tt; to = to }

pub reaches_one : (s : Setting) (p : Progress) (old new : List Entry) (Q : Progress → Type 0) (one : Entry) → new ≡ old ++ one ∷ [] → IsKeptEntry s p one → Q (read s p one) → Reaches s p old new Q
reaches_one s p old new Q one out each to = record { added = one ∷ []; out = out; each = (each, tt); to = to }

pub reaches_then : (s : Setting) (p : Progress) (old mid new : List Entry) (P Q : Progress → Type 0) → Reaches s p old mid P → ((q : Progress) → P q → Reaches s q mid new Q) → Reaches s p old new Q
reaches_then s p old mid new P Q a next = record {
  added = a.added ++ b.added;
  out = b.out ∙ ap (λ (xs : List Entry). xs ++ b.added) a.out ∙ append_assoc old a.added b.added;
  each = each_both s (IsKeptEntry s) a.added b.added p a.each b.each;
  to = rw (fold-append (read s) p a.added b.added) b.to;
}
  where
    b : Reaches s (fold (read s) p a.added) mid new Q
    b = next (fold (read s) p a.added) a.to

pub reaches_as : (s : Setting) (p : Progress) (old new : List Entry) (P Q : Progress → Type 0) → ((q : Progress) → P q → Q q) → Reaches s p old new P → Reaches s p old new Q
reaches_as s p old new P Q so a = record { added = a.added; out = a.out; each = a.each; to = so (fold (read s) p a.added) a.to }

-- WHAT A STOP SAVES

-- Nothing that is current is lost, of devices that are whole. Where the life is cut there, at such a call, that is told then.
pub record IsSaved (Call : ℕ → Type 0) (begun : ℕ) (h : Held) (s : Setting) (p : Progress) : Type 0 where
  pub whole : IsWhole (notes h) h.secrets
  pub gives : AllCurrent begun (Gives (recovered_in h)) p.recorded
  pub at_cut : (step call : ℕ) → p.step ≡ step → Call call → MayBeKept begun s (read s p (entry.Cut step call)) (recovered_in h)

abbrev pub AnyCall : ℕ → Type 0
AnyCall call = Unit {0}

abbrev pub WithinCall : ℕ → Type 0
WithinCall call = 0 < call

-- where the next step of a life stands
pub record IsAtStep (l : ℕ) (life : Life) (j : ℕ) (s : Setting) (p : Progress) : Type 0 where
  pub life_is : life_at s l ≡ Some life
  pub lives : length p.cuts ≡ l
  pub step : p.step ≡ j
  pub nothing : p.written ≡ []

-- memory and devices in a life that has opened
pub record CarriesAt {Dir : Type 0} (c : Fixed Dir) (begun epoch l : ℕ) (st : Live Dir) (h : Held) (s : Setting) (p : Progress) : Type 0 where
  pub half : Carries c begun epoch st h s p
  pub opened : p.opened ≡ Some l
  pub live : IsLiveThrough c any_shares st
  pub active : IsActiveThrough st

-- the cut that ended the life last
last_cut : (cuts : List (Option CutAt)) (l : ℕ) (its : Option CutAt) → length cuts ≡ l → cut_of (cuts ++ its ∷ []) l ≡ its
last_cut [] zero its is = refl
last_cut [] (suc l) its is = absurd (omega (arith, is))
last_cut (x ∷ cuts) zero its is = absurd (omega (arith, is))
last_cut (x ∷ cuts) (suc l) its is = last_cut cuts l its (omega (arith, is))

none_some : {A : Type 0} (a : A) → ◌≡◌ {A = Option A} None (Some a) → ⊥
none_some a e = cc

-- what is on the devices and not recorded was brought by this step
may_at_cut : (b : ℕ) (s : Setting) (p : Progress) (l : ℕ) (life : Life) (j call : ℕ) (m : Pairs) → life_at s l ≡ Some life → length p.cuts ≡ l → p.opened ≡ Some l → 0 < call
    → AllCurrent b (Gives m) p.recorded
    → ((pair : Restored) → Gives m pair → (pair_of p.recorded pair.epoch pair.dealer ≡ Some pair) ⊎ ((pair_of p.recorded pair.epoch pair.dealer ≡ None) × IsBrought s l life j pair))
    → MayBeKept b s (read s p (entry.Cut j call)) m
may_at_cut b s p l life j call m life_is lives opened within given known = record {
  given = given;
  known = λ pair there. elim (known pair there) [ inl is ↦ inl is | inr new ↦ inr (new.0, at_cut pair new.1) ];
  first = λ none. absurd (none_some l (sym none ∙ opened));
}
  where
    at_cut : (pair : Restored) → IsBrought s l life j pair → IsBroughtAtCut s (read s p (entry.Cut j call)) pair
    at_cut pair brought = rw (opened, last_cut p.cuts l (Some (record { step = j; call = call })) lives, life_is) (within, brought)

pub saved_carried : {Dir : Type 0} (Call : ℕ → Type 0) (c : Fixed Dir) (b e l : ℕ) (st : Live Dir) (h : Held) (s : Setting) (p : Progress) → CarriesAt c b e l st h s p → IsSaved Call b h s p
saved_carried Call c b e l st h s p carries = record {
  whole = carries.half.agreed.whole;
  gives = carries.half.are.given;
  at_cut = λ step call here within. may_still b b s p (read s p (entry.Cut step call)) (Some (record { step = step; call = call })) (recovered_in h) (omega arith) refl refl refl
      (may_of b s p l (recovered_in h) carries.opened carries.half.are);
}

-- THE STEP

went_stopped : {F S : Type 0} (end : S) (fault : F) → ◌≡◌ {A = Ended F S} (went end) (stopped fault) → ⊥
went_stopped end fault e = cc

went_broken : {F S : Type 0} (end : S) (cause : Cause) → ◌≡◌ {A = Ended F S} (went end) (broken cause) → ⊥
went_broken end cause e = cc

-- where the node's step went to its end, the half's did
half_went : {Dir : Type 0} (half : Ended Fault (Live Dir)) (end : Live Dir) → EndsBehind half (went end) → (st : Live Dir) × (half ≡ went st) × IsSameBeside st end
half_went (went st) end ends = (st, refl, ends)
half_went (stopped fault) end ends = absurd (went_stopped end (Faulted fault) ends)
half_went (broken cause) end ends = absurd (went_broken {F = NodeStop} end cause ends)

-- what a step leaves, how it ended
pub record IsLeftBy {Dir : Type 0} (c : Fixed Dir) (begun epoch l : ℕ) (Unanswered : Type 0) (ended : Ended NodeStop (Live Dir)) (h : Held) (s : Setting) (p q : Progress) : Type 0 where
  pub same : IsSameStep p q
  pub grown : IsGrown p.recorded q.recorded
  pub saved : IsSaved WithinCall begun h s q
  pub went : IfWentTo ended (λ end. CarriesAt c begun epoch l end h s q × (Unanswered ⊎ (list_any is_ack q.written ≡ true)))

-- memory and devices agree where the step went to its end
agreed_by : {Dir : Type 0} (c : Fixed Dir) (st : Live Dir) (message : Message Dir) (ended : Ended NodeStop (Live Dir)) (w new : World) → AreAgreed st.records w.held → CanRecord c st message
    → EndsSo (node_step c (event_of message) st) ended w new → (end : Live Dir) → ended ≡ went end → AreAgreed end.records new.held
agreed_by {Dir} c st message ended w new agreed can run end is =
    let behind : RunsBehind (step c message st) ended w new = steps_run_behind c st message ended w new run in
    let its = half_went behind.half end (subst (EndsBehind behind.half) is behind.ends) in
    let half_run : EndsSo (step c message st) (went its.0) w behind.mid = subst (λ (half : Ended Fault (Live Dir)). EndsSo (step c message st) half w behind.mid) its.1 behind.run in
    subst (λ (h : Held). AreAgreed end.records h) (sym behind.held)
    (subst (λ (x : Live Dir). AreAgreed x.records behind.mid.held) (sym its.2) (steps_agree c st its.0 message w behind.mid agreed can half_run))

-- what is said of the life that a step goes to: the round of the epoch that is awaited then, in which recorded dealings pass
pub record IsBehindStep {Dir : Type 0} (c : Fixed Dir) (epoch : ℕ) (end : Live Dir) (h : Held) (s : Setting) : Type 0 where
  pub in_round : (round : Round) → end.participation.round ≡ Some round → (round_at s epoch ≡ Some round) × (round.number ≡ epoch)
  pub valid : ValidAt epoch end h s
  pub live : IsLiveThrough c any_shares end
  pub active : IsActiveThrough end

-- the rest, of what the half's entries leave: b has begun then, and e is awaited
module _ {Dir : Type 0} (c : Fixed Dir) (b0 e0 b e l : ℕ) (life : Life) (j : ℕ) (st : Live Dir) (message : Message Dir) (ended : Ended NodeStop (Live Dir)) (w new : World) (s : Setting) (p : Progress)
    (at : IsAtStep l life j s p) (carries : CarriesAt c b0 e0 l st w.held s p) (agreed : (end : Live Dir) → ended ≡ went end → AreAgreed end.records new.held) (current : b < e + 2)
    (next : IfWentTo ended (λ end. IsBehindStep c e end new.held s)) where
  carried : (end : Live Dir) (q : Progress) → ended ≡ went end → IsBehindStep c e end new.held s → q.opened ≡ p.opened → AreKept b (recovered_in new.held) q.recorded → CarriesAt c b e l end new.held s q
  carried end q is its opened are = record {
    half = record { knows = carries.half.knows; agreed = agreed end is; are = are; current = current; in_round = its.in_round; valid = its.valid };
    opened = opened ∙ carries.opened;
    live = its.live;
    active = its.active;
  }

  leaves : (Unanswered : Type 0) (q : Progress) → IsSameStep p q → IsWhole (notes new.held) new.held.secrets → AllCurrent b (Gives (recovered_in new.held)) q.recorded
      → ((pair : Restored) → Gives (recovered_in new.held) pair → (pair_of q.recorded pair.epoch pair.dealer ≡ Some pair) ⊎ ((pair_of q.recorded pair.epoch pair.dealer ≡ None) × IsBrought s l life j pair))
      → IsGrown p.recorded q.recorded
      → IfWentTo ended (λ end. ((pair : Restored) → Gives (recovered_in new.held) pair → pair_of q.recorded pair.epoch pair.dealer ≡ Some pair) × (Unanswered ⊎ (list_any is_ack q.written ≡ true)))
      → IsLeftBy c b e l Unanswered ended new.held s p q
  leaves Unanswered q same whole given known grown settled = record {
    same = same;
    grown = grown;
    saved = record {
      whole = whole;
      gives = given;
      at_cut = λ step call here within. subst (λ (n : ℕ). MayBeKept b s (read s q (entry.Cut n call)) (recovered_in new.held)) (sym at.step ∙ sym same.step ∙ here)
          (may_at_cut b s q l life j call (recovered_in new.held) at.life_is (ap length same.cuts ∙ at.lives) (same.opened ∙ carries.opened) within given known);
    };
    went = by_end ended refl next settled;
  }
    where
      by_end : (its : Ended NodeStop (Live Dir)) → ended ≡ its → IfWentTo its (λ end. IsBehindStep c e end new.held s)
          → IfWentTo its (λ end. ((pair : Restored) → Gives (recovered_in new.held) pair → pair_of q.recorded pair.epoch pair.dealer ≡ Some pair) × (Unanswered ⊎ (list_any is_ack q.written ≡ true)))
          → IfWentTo its (λ end. CarriesAt c b e l end new.held s q × (Unanswered ⊎ (list_any is_ack q.written ≡ true)))
      by_end (went end) is next settled = (carried end q is next same.opened (record { given = given; known = settled.0 }), settled.1)
      by_end (stopped stop) is next settled = tt
      by_end (broken cause) is next settled = tt

-- what was written stays so
any_more : (xs ys : List Entry) → list_any is_ack xs ≡ true → list_any is_ack (xs ++ ys) ≡ true
any_more xs ys is = list_any-append is_ack xs ys ∙ (rw is refl)

-- entries aside are written behind
aside_written : (s : Setting) (lines : List Entry) (p : Progress) → AllByRecursion IsAside lines → list_any is_ack p.written ≡ true → list_any is_ack (fold (read s) p lines).written ≡ true
aside_written s [] p aside is = is
aside_written s (one ∷ lines) p aside is = aside_written s lines (read s p one) aside.1 (one_more one aside.0)
  where
    one_more : (one : Entry) → IsAside one → list_any is_ack (read s p one).written ≡ true
    one_more (entry.Opened life restored) aside = absurd aside
    one_more (entry.Recorded epoch dealer public private) aside = absurd aside
    one_more (entry.Cut step call) aside = absurd aside
    one_more (entry.Step step) aside = absurd aside
    one_more other aside = any_more p.written (other ∷ []) is

-- A MESSAGE
module _ {Dir : Type 0} (c : Fixed Dir) (b e l : ℕ) (life : Life) (j from : ℕ) (bytes : List ℕ) (st : Live Dir) (ended : Ended NodeStop (Live Dir)) (w new : World) (s : Setting) (p : Progress)
    (at : IsAtStep l life j s p) (event_is : event_of_step life j ≡ Some (FromPeer from bytes)) (awaits : e ≡ awaited_epoch s l life (j - 1)) (carries : CarriesAt c b e l st w.held s p)
    (can : CanRecord c st (Mailed (Peer from bytes))) (small : from < 2 ^ 32)
    -- the life goes on in its round and its seat
    (next : IfWentTo ended (λ end. (end.participation.round ≡ st.participation.round) × (end.participation.seat ≡ st.participation.seat) × IsLiveThrough c any_shares end × IsActiveThrough end))
    (run : EndsSo (node_step c (event_of (Mailed (Peer from bytes))) st) ended w new) where
  abbrev its : RunsBehind (step c (Mailed (Peer from bytes)) st) ended w new
  its = steps_run_behind c st (Mailed (Peer from bytes)) ended w new run

  its_half : IsHeard c b e st from bytes life l j its.half w its.mid s p
  its_half = heard c b e st from bytes life l j its.half w its.mid s p
      (record { awaits = awaits; life_is = at.life_is; lives = at.lives; step = at.step; event_is = event_is; nothing = at.nothing }) carries.half can.brings small its.run

  -- nothing is due, and nothing was recorded
  abbrev Unheard : Progress → Type 0
  Unheard q = IsUndue c st from bytes × (q.recorded ≡ p.recorded)

  behind_it : IfWentTo ended (λ end. IsBehindStep c e end new.held s)
  behind_it = by_end ended next
    where
      by_end : (its_end : Ended NodeStop (Live Dir)) → IfWentTo its_end (λ end. (end.participation.round ≡ st.participation.round) × (end.participation.seat ≡ st.participation.seat) × IsLiveThrough c any_shares end × IsActiveThrough end)
          → IfWentTo its_end (λ end. IsBehindStep c e end new.held s)
      by_end (went end) so = record {
        in_round = λ round there. carries.half.in_round round (sym so.0 ∙ there);
        valid = λ round dealer pair there plays low found. its_half.valid round dealer pair (sym so.0 ∙ there) (sym so.1 ∙ plays) low (rw its.held at found);
        live = so.2;
        active = so.3;
      }
      by_end (stopped stop) so = tt
      by_end (broken cause) so = tt

  pub message_kept : Reaches s p w.out new.out (λ q. IsLeftBy c b e l (IsUndue c st from bytes × (q.recorded ≡ p.recorded)) ended new.held s p q)
  message_kept = record {
    added = its_half.added ++ its.lines;
    out = its.out ∙ ap (λ (xs : List Entry). xs ++ its.lines) its_half.out ∙ append_assoc w.out its_half.added its.lines;
    each = each_both s (IsKeptEntry s) its_half.added its.lines p its_half.each (each_aside s its.lines mid its.aside);
    to = rw (fold-append (read s) p its_half.added its.lines) (left (fold (read s) mid its.lines) (read_aside s its.lines mid its.aside) (aside_written s its.lines mid its.aside));
  }
    where
      mid : Progress
      mid = fold (read s) p its_half.added

      left : (q : Progress) → IsUnchanged mid q → (list_any is_ack mid.written ≡ true → list_any is_ack q.written ≡ true) → IsLeftBy c b e l (Unheard q) ended new.held s p q
      left q unchanged wrote = leaves c b e b e l life j st (Mailed (Peer from bytes)) ended w new s p at carries (agreed_by c st (Mailed (Peer from bytes)) ended w new carries.half.agreed can run) carries.half.current behind_it (Unheard q) q
          (record { cuts = unchanged.cuts ∙ its_half.same.cuts; step = unchanged.step ∙ its_half.same.step; opened = unchanged.opened ∙ its_half.same.opened })
          (subst (λ (h : Held). IsWhole (notes h) h.secrets) (sym its.held) its_half.whole)
          (rw (its.held, unchanged.recorded) its_half.given)
          (λ pair there. rw unchanged.recorded (its_half.known pair (rw its.held at there)))
          (λ pair there. rw unchanged.recorded (grown_all s its_half.added p pair there))
          (by_end its.half ended its.ends its_half.ended)
        where
          Settled : Type 0
          Settled = ((pair : Restored) → Gives (recovered_in new.held) pair → pair_of q.recorded pair.epoch pair.dealer ≡ Some pair) × (Unheard q ⊎ (list_any is_ack q.written ≡ true))

          by_end : (half : Ended Fault (Live Dir)) (whole : Ended NodeStop (Live Dir)) → EndsBehind half whole
              → IfWentTo half (λ end. ((pair : Restored) → Gives (recovered_in its.mid.held) pair → pair_of mid.recorded pair.epoch pair.dealer ≡ Some pair) × (Unheard mid ⊎ (list_any is_ack mid.written ≡ true)))
              → IfWentTo whole (λ end. Settled)
          by_end (went x) (went end) ends so =
              ((λ pair there. rw unchanged.recorded (so.0 pair (rw its.held at there))), elim so.1 [ inl passed ↦ inl (passed.0, unchanged.recorded ∙ passed.1) | inr is ↦ inr (wrote is) ])
          by_end half (stopped stop) ends so = tt
          by_end half (broken cause) ends so = tt
          by_end (stopped fault) (went end) ends so = absurd (went_stopped end (Faulted fault) ends)
          by_end (broken cause) (went end) ends so = absurd (went_broken {F = NodeStop} end cause ends)

-- ANY OTHER MESSAGE

-- what a request is answered is aside
asked_aside : (lines : List Entry) → AllByRecursion IsAskedEntry lines → AllByRecursion IsAside lines
asked_aside [] all = tt
asked_aside (entry.Answer request answer ∷ lines) all = (tt, asked_aside lines all.1)
asked_aside (entry.Log request log ∷ lines) all = (tt, asked_aside lines all.1)
asked_aside (other ∷ lines) all = absurd all.0

module _ {Dir : Type 0} (c : Fixed Dir) (b e l : ℕ) (life : Life) (j : ℕ) (mail : Mail Dir) (st : Live Dir) (ended : Ended NodeStop (Live Dir)) (w new : World) (s : Setting) (p : Progress) (at : IsAtStep l life j s p)
    (carries : CarriesAt c b e l st w.held s p) (can : CanRecord c st (Mailed mail)) (other : IsOther (Mailed mail)) (next : IfWentTo ended (λ end. IsLiveThrough c any_shares end × IsActiveThrough end))
    (run : EndsSo (node_step c (event_of (Mailed mail)) st) ended w new) where
  abbrev answers : LeavesIdle st ended w new
  answers = mails_are_idle c mail st ended w new other ((carries.active).active).unawaited run

  idle_pairs : recovered_in new.held ≡ recovered_in w.held
  idle_pairs = ap (λ (h : Held). recovered_in h) answers.held

  idle_behind : IfWentTo ended (λ end. IsBehindStep c e end new.held s)
  idle_behind = by_end ended answers.goes next
    where
      by_end : (its : Ended NodeStop (Live Dir)) → CameTo (λ stop. Unit {0}) (λ end. end ≡ with_inclusion end.inclusion st) its → IfWentTo its (λ end. IsLiveThrough c any_shares end × IsActiveThrough end)
          → IfWentTo its (λ end. IsBehindStep c e end new.held s)
      by_end (went end) same lives = record {
        in_round = λ round there. carries.half.in_round round (sym (ap (λ (x : Live Dir). x.participation.round) same) ∙ there);
        valid = λ round dealer pair there plays low got. carries.half.valid round dealer pair (sym (ap (λ (x : Live Dir). x.participation.round) same) ∙ there)
            (sym (ap (λ (x : Live Dir). x.participation.seat) same) ∙ plays) low (subst (λ (m : Pairs). get m (e, dealer) ≡ Some pair) idle_pairs got);
        live = lives.0;
        active = lives.1;
      }
      by_end (stopped stop) same lives = tt
      by_end (broken cause) same lives = tt

  pub mail_kept : Reaches s p w.out new.out (IsLeftBy c b e l (Unit {0}) ended new.held s p)
  mail_kept = record {
    added = answers.lines;
    out = answers.out;
    each = each_aside s answers.lines p (asked_aside answers.lines answers.says);
    to = left (fold (read s) p answers.lines) (read_aside s answers.lines p (asked_aside answers.lines answers.says));
  }
    where
      left : (q : Progress) → IsUnchanged p q → IsLeftBy c b e l (Unit {0}) ended new.held s p q
      left q unchanged = leaves c b e b e l life j st (Mailed mail) ended w new s p at carries (agreed_by c st (Mailed mail) ended w new carries.half.agreed can run) carries.half.current idle_behind (Unit {0}) q
          (record { cuts = unchanged.cuts; step = unchanged.step; opened = unchanged.opened }) (subst (λ (h : Held). IsWhole (notes h) h.secrets) (sym answers.held) carries.half.agreed.whole)
          (subst (λ (m : Pairs). AllCurrent b (Gives m) q.recorded) (sym idle_pairs) (rw unchanged.recorded carries.half.are.given)) (λ pair there. inl (known pair there))
          (λ pair there. rw unchanged.recorded there) (by_end ended)
        where
          known : (pair : Restored) → Gives (recovered_in new.held) pair → pair_of q.recorded pair.epoch pair.dealer ≡ Some pair
          known pair there = rw unchanged.recorded (carries.half.are.known pair (subst (λ (m : Pairs). Gives m pair) idle_pairs there))

          by_end : (its : Ended NodeStop (Live Dir)) → IfWentTo its (λ end. ((pair : Restored) → Gives (recovered_in new.held) pair → pair_of q.recorded pair.epoch pair.dealer ≡ Some pair) × (Unit {0} ⊎ (list_any is_ack q.written ≡ true)))
          by_end (went end) = (known, inl tt)
          by_end (stopped stop) = tt
          by_end (broken cause) = tt

-- A BLOCK

-- what is found behind such lines was told among them
told_known : (s : Setting) (lines front back : List Entry) (epoch dealer : ℕ) (public : List ℕ) (private : ℕ) (p : Progress) → lines ≡ front ++ entry.Recorded epoch dealer public private ∷ back → EachAfter s (IsKeptEntry s) p lines
    → pair_of (fold (read s) p lines).recorded epoch dealer ≡ Some (restored_at epoch dealer (public, private))
told_known s lines front back epoch dealer public private p is each =
    subst (λ (ls : List Entry). pair_of (fold (read s) p ls).recorded epoch dealer ≡ Some (restored_at epoch dealer (public, private))) (sym is) (at_front front p (subst (EachAfter s (IsKeptEntry s) p) is each))
  where
    at_front : (front : List Entry) (p : Progress) → EachAfter s (IsKeptEntry s) p (front ++ entry.Recorded epoch dealer public private ∷ back)
        → pair_of (fold (read s) p (front ++ entry.Recorded epoch dealer public private ∷ back)).recorded epoch dealer ≡ Some (restored_at epoch dealer (public, private))
    at_front [] p each = grown_all s back (read s p (entry.Recorded epoch dealer public private)) (restored_at epoch dealer (public, private)) (((each.0).0).stays)
    at_front (x ∷ front) p each = at_front front (read s p x) each.1

module _ {Dir : Type 0} (c : Fixed Dir) (b e l : ℕ) (life : Life) (j number : ℕ) (st : Live Dir) (h : Held) (s : Setting) (p : Progress) (at : IsAtStep l life j s p) (event_is : event_of_step life j ≡ Some (Final number))
    (awaits : e ≡ awaited_epoch s l life (j - 1)) (current : b < e + 2) (in_round : (round : Round) → st.participation.round ≡ Some round → (round_at s e ≡ Some round) × (round.number ≡ e)) (me_is : c.me ≡ me s)
    (known : (key : ℕ × ℕ) (pair : List ℕ × ℕ) → get (recovered_in h) key ≡ Some pair → (pair_of p.recorded key.0 key.1 ≡ Some (restored_at key.0 key.1 pair)) ⊎ IsOwnDealt c st key pair)
    (valid_own : (key : ℕ × ℕ) (pair : List ℕ × ℕ) (its : IsOwnDealt c st key pair) → dealing_of its.round (me s) (me s) pair.0 pair.1 ≡ Ok tt) where
  abbrev m : Pairs
  m = recovered_in h

  -- what this node deals to itself is brought by this step
  brought : (key : ℕ × ℕ) (pair : List ℕ × ℕ) → IsOwnDealt c st key pair → IsBrought s l life j (restored_at key.0 key.1 pair)
  brought key pair its = record {
    epoch = epoch_is ∙ awaits;
    event = rw event_is dealer_is;
    valid = rw (ap (round_at s) epoch_is ∙ (in_round its.round its.of_epoch).0) (subst (λ (n : ℕ). dealing_of its.round (me s) n pair.0 pair.1 ≡ Ok tt) (sym dealer_is) (valid_own key pair its));
  }
    where
      epoch_is : key.0 ≡ e
      epoch_is = ap (λ (k : ℕ × ℕ). k.0) its.at ∙ (in_round its.round its.of_epoch).1

      dealer_is : key.1 ≡ me s
      dealer_is = ap (λ (k : ℕ × ℕ). k.1) its.at ∙ me_is

  abbrev Fine : Entry → Type 0
  Fine line = IsLineOfBlock c st line × IsSaidFrom (c.rules.ack_of c.me) (b - 1) h line

  -- ITS LINES

  module _ (q : Progress) (same : IsSameStep p q) (given : AllCurrent b (Gives m) q.recorded)
      (older : (pair : Restored) → pair_of p.recorded pair.epoch pair.dealer ≡ Some pair → pair_of q.recorded pair.epoch pair.dealer ≡ Some pair) (epoch dealer : ℕ) (public : List ℕ) (private : ℕ)
      (is : epoch ≡ e) (there : get m (epoch, dealer) ≡ Some (public, private)) where
    abbrev pair : Restored
    pair = restored_at epoch dealer (public, private)

    first : pair_of q.recorded epoch dealer ≡ None → IsBroughtNow s q pair
    first none = elim (known (epoch, dealer) (public, private) there) [
      | inl was ↦ absurd (none_some pair (sym none ∙ older pair was))
      | inr its ↦ now (brought (epoch, dealer) (public, private) its)
    ]
      where
        now : IsBrought s l life j pair → IsBroughtNow s q pair
        now is = rw (ap length same.cuts ∙ at.lives, at.life_is, same.step ∙ at.step) is

    stays : pair_of (with_restored q.recorded pair) epoch dealer ≡ Some pair
    stays = with_pair_finds q.recorded pair epoch dealer ∙ by_found (pair_of q.recorded epoch dealer) refl
      where
        by_found : (o : Option Restored) → pair_of q.recorded epoch dealer ≡ o → option_or o (pair_of (pair ∷ []) epoch dealer) ≡ Some pair
        by_found None none = own_found pair
        by_found (Some x) found =
            let its = found_current b (Gives m) q.recorded epoch dealer x given found (omega (arith, is, current)) in
            ap (λ (y : Restored). Some y) (gives_one m x pair its.0 there its.1 its.2)

    one_recorded : IsKeptEntry s q (entry.Recorded epoch dealer public private)
    one_recorded = (record { first = first; stays = stays }, tt)

  pub lines_kept : (lines : List Entry) (q : Progress) → IsSameStep p q → AllByRecursion Fine lines → AllCurrent b (Gives m) q.recorded
      → ((pair : Restored) → pair_of p.recorded pair.epoch pair.dealer ≡ Some pair → pair_of q.recorded pair.epoch pair.dealer ≡ Some pair)
      → EachAfter s (IsKeptEntry s) q lines × (IsSameStep p (fold (read s) q lines) × AllCurrent b (Gives m) (fold (read s) q lines).recorded)
  lines_kept [] q same fine given older = (tt, (same, given))
  lines_kept (entry.Opened life restored ∷ lines) q same fine given older = absurd fine.0.0
  lines_kept (entry.Cut step call ∷ lines) q same fine given older = absurd fine.0.0
  lines_kept (entry.Step step ∷ lines) q same fine given older = absurd fine.0.0
  lines_kept (entry.Fault fault ∷ lines) q same fine given older = absurd fine.0.0
  lines_kept (entry.Ack epoch dealer ack ∷ lines) q same fine given older = absurd fine.0.0
  lines_kept (entry.Recorded epoch dealer public private ∷ lines) q same fine given older =
      let own : IsDealtToItself c st epoch public private = fine.0.0.1 in
      let is : epoch ≡ e = own.of_round ∙ (in_round own.round own.of_epoch).1 in
      let above : b - 1 ≤ epoch = omega (arith, is, current) in
      let there : get m (epoch, dealer) ≡ Some (public, private) = fine.0.1 above in
      let rest = lines_kept lines (read s q (entry.Recorded epoch dealer public private)) (record { cuts = same.cuts; step = same.step; opened = same.opened }) fine.1
      (current_with b (Gives m) q.recorded (restored_at epoch dealer (public, private)) given (λ now. there))
      (λ pair was. grown s q (entry.Recorded epoch dealer public private) pair (older pair was)) in
      ((one_recorded q same given older epoch dealer public private is there, rest.0), rest.1)
  lines_kept (other ∷ lines) q same fine given older =
      let rest = lines_kept lines (read s q other) (record { cuts = same.cuts; step = same.step; opened = same.opened }) fine.1 given older in
      (((tt, tt), rest.0), rest.1)

module _ {Dir : Type 0} (c : Fixed Dir) (b0 e0 b e l : ℕ) (life : Life) (j number : ℕ) (block : Block Dir) (st : Live Dir) (ended : Ended NodeStop (Live Dir)) (w new : World) (s : Setting) (p : Progress) (form : IsForm c)
    (at : IsAtStep l life j s p) (event_is : event_of_step life j ≡ Some (Final number)) (awaits : e0 ≡ awaited_epoch s l life (j - 1)) (carries : CarriesAt c b0 e0 l st w.held s p)
    (can : CanRecord c st (Finalized block))
    -- what has begun by then, and is awaited: a block that is applied while dealing is of the epoch that was awaited
    (later : b0 ≤ b) (reach : reach_of c (Finalized block) ≤ b - 1) (current : b < e + 2) (dealing : judged_block c block st ≡ Applied → (round : Round) → st.participation.round ≡ Some round → b < e0 + 2)
    (next : IfWentTo ended (λ end. IsBehindStep c e end new.held s)) (run : EndsSo (node_step c (Delivers block) st) ended w new) where
  abbrev kept : IsKeptBehind c st (b - 1) w new
  kept = blocks_keep c block st ended (b - 1) w new reach carries.half.agreed can run

  still_given : AllCurrent b (Gives (recovered_in new.held)) p.recorded
  still_given = current_as b (Gives (recovered_in w.held)) (Gives (recovered_in new.held)) (λ x now given. kept.dealings (x.epoch, x.dealer) (x.public, x.private) (omega (arith, now)) given) p.recorded
      (current_later b0 b (Gives (recovered_in w.held)) later p.recorded carries.half.are.given)

  abbrev Left : Type 0
  Left = Reaches s p w.out new.out (IsLeftBy c b e l (Unit {0}) ended new.held s p)

  agreed_then : (end : Live Dir) → ended ≡ went end → AreAgreed end.records new.held
  agreed_then = agreed_by c st (Finalized block) ended w new carries.half.agreed can run

  -- nothing of dealings was said, and nothing more is given back
  idle : (lines : List Entry) → new.out ≡ w.out ++ lines → AllByRecursion IsAside lines → ((key : ℕ × ℕ) (pair : List ℕ × ℕ) → get (recovered_in new.held) key ≡ Some pair → get (recovered_in w.held) key ≡ Some pair) → Left
  idle lines out aside before = record { added = lines; out = out; each = each_aside s lines p aside; to = left (fold (read s) p lines) (read_aside s lines p aside) }
    where
      left : (q : Progress) → IsUnchanged p q → IsLeftBy c b e l (Unit {0}) ended new.held s p q
      left q unchanged = leaves c b0 e0 b e l life j st (Finalized block) ended w new s p at carries agreed_then current next (Unit {0}) q (record { cuts = unchanged.cuts; step = unchanged.step; opened = unchanged.opened }) kept.whole
          (rw unchanged.recorded still_given) (λ pair there. inl (known pair there)) (λ pair there. rw unchanged.recorded there) (by_end ended)
        where
          known : (pair : Restored) → Gives (recovered_in new.held) pair → pair_of q.recorded pair.epoch pair.dealer ≡ Some pair
          known pair there = rw unchanged.recorded (carries.half.are.known pair (before (pair.epoch, pair.dealer) (pair.public, pair.private) there))

          by_end : (its : Ended NodeStop (Live Dir)) → IfWentTo its (λ end. ((pair : Restored) → Gives (recovered_in new.held) pair → pair_of q.recorded pair.epoch pair.dealer ≡ Some pair) × (Unit {0} ⊎ (list_any is_ack q.written ≡ true)))
          by_end (went end) = (known, inl tt)
          by_end (stopped stop) = tt
          by_end (broken cause) = tt

  abbrev its_known : (key : ℕ × ℕ) (pair : List ℕ × ℕ) → get (recovered_in new.held) key ≡ Some pair → (get (recovered_in w.held) key ≡ Some pair) ⊎ IsOwnDealt c st key pair
  its_known = gives_no_other c st block w carries.half.agreed can ended new run

  -- a life without a round has no dealing of its own
  roundless : st.participation.round ≡ None → Left
  roundless none = idle kept.lines kept.out (all_aside kept.lines kept.said) (λ key pair got. elim (its_known key pair got) [ inl was ↦ was | inr its ↦ absurd (none_some its.round (sym none ∙ its.of_epoch)) ])
    where
      one_aside : (line : Entry) → IsLineOfBlock c st line → IsAside line
      one_aside (entry.Opened life restored) fine = absurd fine
      one_aside (entry.Cut step call) fine = absurd fine
      one_aside (entry.Step step) fine = absurd fine
      one_aside (entry.Fault fault) fine = absurd fine
      one_aside (entry.Ack epoch dealer ack) fine = absurd fine
      one_aside (entry.Recorded epoch dealer public private) fine = let own : IsDealtToItself c st epoch public private = fine.1 in absurd (none_some own.round (sym none ∙ own.of_epoch))
      one_aside (entry.Offer epoch player public private) fine = let its : IsOffered c st epoch player public private = fine in absurd (none_some its.round (sym none ∙ its.of_epoch))
      one_aside other fine = tt

      all_aside : (lines : List Entry) → AllByRecursion (IsLineOfBlock c st) lines → AllByRecursion IsAside lines
      all_aside [] all = tt
      all_aside (line ∷ lines) all = (one_aside line all.0, all_aside lines all.1)

  -- WHILE DEALING

  module _ (now : b < e0 + 2) where
    abbrev behind : RunsBehind (step c (Finalized block) st) ended w new
    behind = steps_run_behind c st (Finalized block) ended w new run

    abbrev half : IsKeptFrom (c.rules.ack_of c.me) (b - 1) w.out behind.mid
    half = along_runs (IsKeptFrom (c.rules.ack_of c.me) (b - 1) w.out) (on_devices (step c (Finalized block) st)) behind.half w behind.mid
        (steps_keep c st (Finalized block) (b - 1) w.out w reach carries.half.agreed can (record { whole = carries.half.agreed.whole; added = []; out = sym (append-nil w.out); said = tt })) behind.run

    lines_are : half.added ++ behind.lines ≡ kept.lines
    lines_are = append_cancel_left w.out (half.added ++ behind.lines) kept.lines (sym (behind.out ∙ ap (λ (ls : List Entry). ls ++ behind.lines) half.out ∙ append_assoc w.out half.added behind.lines) ∙ kept.out)

    aside_said : (line : Entry) → IsAside line → IsSaidFrom (c.rules.ack_of c.me) (b - 1) new.held line
    aside_said (entry.Recorded epoch dealer public private) aside = absurd aside
    aside_said (entry.Ack epoch dealer ack) aside = absurd aside
    aside_said line aside = tt

    both_said : (xs ys : List Entry) → AllByRecursion (IsSaidFrom (c.rules.ack_of c.me) (b - 1) new.held) xs → AllByRecursion IsAside ys → AllByRecursion (IsSaidFrom (c.rules.ack_of c.me) (b - 1) new.held) (xs ++ ys)
    both_said [] [] said aside = tt
    both_said [] (y ∷ ys) said aside = (aside_said y aside.0, both_said [] ys tt aside.1)
    both_said (x ∷ xs) ys said aside = (said.0, both_said xs ys said.1 aside)

    both_fine : (lines : List Entry) → AllByRecursion (IsLineOfBlock c st) lines → AllByRecursion (IsSaidFrom (c.rules.ack_of c.me) (b - 1) new.held) lines
        → AllByRecursion (λ line. IsLineOfBlock c st line × IsSaidFrom (c.rules.ack_of c.me) (b - 1) new.held line) lines
    both_fine [] one other = tt
    both_fine (line ∷ lines) one other = ((one.0, other.0), both_fine lines one.1 other.1)

    fine : AllByRecursion (λ line. IsLineOfBlock c st line × IsSaidFrom (c.rules.ack_of c.me) (b - 1) new.held line) kept.lines
    fine = both_fine kept.lines kept.said (subst (λ (ls : List Entry). AllByRecursion (IsSaidFrom (c.rules.ack_of c.me) (b - 1) new.held) ls) lines_are
        (both_said half.added behind.lines (subst (λ (x : Held). AllByRecursion (IsSaidFrom (c.rules.ack_of c.me) (b - 1) x) half.added) (sym behind.held) half.said) behind.aside))

    old_or_own : (key : ℕ × ℕ) (pair : List ℕ × ℕ) → get (recovered_in new.held) key ≡ Some pair → (pair_of p.recorded key.0 key.1 ≡ Some (restored_at key.0 key.1 pair)) ⊎ IsOwnDealt c st key pair
    old_or_own key pair got = elim (its_known key pair got) [ inl was ↦ inl (carries.half.are.known (restored_at key.0 key.1 pair) was) | inr its ↦ inr its ]

    valid_own : (key : ℕ × ℕ) (pair : List ℕ × ℕ) (its : IsOwnDealt c st key pair) → dealing_of its.round (me s) (me s) pair.0 pair.1 ≡ Ok tt
    valid_own key pair its = own_valid c any_shares s st key pair form carries.live carries.half.knows its

    each_kept : EachAfter s (IsKeptEntry s) p kept.lines × (IsSameStep p (fold (read s) p kept.lines) × AllCurrent b (Gives (recovered_in new.held)) (fold (read s) p kept.lines).recorded)
    each_kept = lines_kept c b e0 l life j number st new.held s p at event_is awaits now carries.half.in_round carries.half.knows.me_is old_or_own valid_own kept.lines p (record { cuts = refl; step = refl; opened = refl }) fine still_given
        (λ pair was. was)

    abbrev q : Progress
    q = fold (read s) p kept.lines

    known : (pair : Restored) → Gives (recovered_in new.held) pair → (pair_of q.recorded pair.epoch pair.dealer ≡ Some pair) ⊎ ((pair_of q.recorded pair.epoch pair.dealer ≡ None) × IsBrought s l life j pair)
    known pair there = elim (old_or_own (pair.epoch, pair.dealer) (pair.public, pair.private) there) [
      | inl was ↦ inl (grown_all s kept.lines p pair was)
      | inr its ↦ own its (pair_of q.recorded pair.epoch pair.dealer) refl
    ]
      where
        own : IsOwnDealt c st (pair.epoch, pair.dealer) (pair.public, pair.private) → (o : Option Restored) → pair_of q.recorded pair.epoch pair.dealer ≡ o
            → (pair_of q.recorded pair.epoch pair.dealer ≡ Some pair) ⊎ ((pair_of q.recorded pair.epoch pair.dealer ≡ None) × IsBrought s l life j pair)
        own its None none = inr (none, brought c b e0 l life j number st new.held s p at event_is awaits now carries.half.in_round carries.half.knows.me_is old_or_own valid_own (pair.epoch, pair.dealer) (pair.public, pair.private) its)
        own its (Some x) found =
            let epoch_is : pair.epoch ≡ e0 = ap (λ (k : ℕ × ℕ). k.0) its.at ∙ (carries.half.in_round its.round its.of_epoch).1 in
            let x_is = found_current b (Gives (recovered_in new.held)) q.recorded pair.epoch pair.dealer x each_kept.1.1 found (omega (arith, epoch_is, now)) in
            inl (found ∙ ap (λ (y : Restored). Some y) (gives_one (recovered_in new.held) x pair x_is.0 there x_is.1 x_is.2))

    deals_left : Left
    deals_left = record {
      added = kept.lines;
      out = kept.out;
      each = each_kept.0;
      to = leaves c b0 e0 b e l life j st (Finalized block) ended w new s p at carries agreed_then current next (Unit {0}) q each_kept.1.0 kept.whole each_kept.1.1 known (λ pair there. grown_all s kept.lines p pair there)
          (by_end ended (tells_own c st block w carries.half.agreed can ended new run));
    }
      where
        by_end : (its : Ended NodeStop (Live Dir)) → IfWentTo its (λ end. AreTold (recovered_in w.held) w.out new)
            → IfWentTo its (λ end. ((pair : Restored) → Gives (recovered_in new.held) pair → pair_of q.recorded pair.epoch pair.dealer ≡ Some pair) × (Unit {0} ⊎ (list_any is_ack q.written ≡ true)))
        by_end (went end) told = ((λ pair there. all_told pair (told (pair.epoch, pair.dealer) (pair.public, pair.private) there)), inl tt)
          where
            all_told : (pair : Restored) → (get (recovered_in w.held) (pair.epoch, pair.dealer) ≡ Some (pair.public, pair.private)) ⊎ IsToldSince w.out new (pair.epoch, pair.dealer) (pair.public, pair.private)
                → pair_of q.recorded pair.epoch pair.dealer ≡ Some pair
            all_told pair (inl was) = grown_all s kept.lines p pair (carries.half.are.known pair was)
            all_told pair (inr its) = told_known s kept.lines its.front its.back pair.epoch pair.dealer pair.public pair.private p
                (append_cancel_left w.out kept.lines (its.front ++ entry.Recorded pair.epoch pair.dealer pair.public pair.private ∷ its.back) (sym kept.out ∙ its.out)) each_kept.0
        by_end (stopped stop) told = tt
        by_end (broken cause) told = tt

  -- A BLOCK'S STEP, wherever it ends
  pub block_kept : Reaches s p w.out new.out (IsLeftBy c b e l (Unit {0}) ended new.held s p)
  block_kept = by_judged (judged_block c block st) refl
    where
      refused : (judged_block c block st ≡ Applied → ⊥) → Left
      refused not =
          let its = says_aside c st block w carries.half.agreed can ended new run not in
          idle its.0 its.1 its.2 (gives_before c st block w carries.half.agreed can ended new run not)

      by_round : judged_block c block st ≡ Applied → (o : Option Round) → st.participation.round ≡ o → Left
      by_round judged None none = roundless none
      by_round judged (Some round) is = deals_left (dealing judged round is)

      by_judged : (judged : Judged) → judged_block c block st ≡ judged → Left
      by_judged (Refusal fault) is = refused (λ applied. let no : ◌≡◌ {A = Judged} (Refusal fault) Applied = sym is ∙ applied in cc)
      by_judged Passed is = refused (λ applied. let no : ◌≡◌ {A = Judged} Passed Applied = sym is ∙ applied in cc)
      by_judged Applied is = by_round is st.participation.round refl
