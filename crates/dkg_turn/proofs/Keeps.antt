-- Each step keeps the rule of the lock.
use Rattle.std.proofs.Common.{◌≡◌, ◌≢◌, ◌⊎◌, ℕ, zero, suc, ◌+◌, ◌-◌, ◌%◌, ◌^◌, ◌<◌, ◌≤◌, eqb, ◌==◌, ◌||◌, Bool, true, false, true≢false, List, [], ◌∷◌, ◌++◌, length, get_or, set, Option, Some, refl, sym, ap, ◌∙◌, subst, inl, inr, ⊎_elim, arith, MatchBool, append-nil, append_assoc, eq-eqb, ne_eqb}
use mathlib.Core.Logic.{dite}
use mathlib.Core.Option.{none, some, some-injective, some-ne-none}
use mathlib.Core.Option as maybe
use native.Mathlib.Decide.{ℕ_discrete}
use lib.ListN.{get_elem?}
use lib.Seq.{set-get_or}
use prog.Atomic.{either}
use Rattle.atomic_table.specs.Table.{State, Me, step, keeps, takes, gives, stepped, Allows, opening}
use Rattle.atomic_table.proofs.Lists.{at_set, set_else, set_again}
use Rattle.dkg_turn.specs.declared.turn.HistoryEntry.{HistoryEntry}
use Rattle.dkg_turn.specs.declared.view.Node.{Node}
use Rattle.dkg_turn.specs.declared.view.View.{View}
use Rattle.dkg_turn.specs.declared.view.Stage.{Stage}
use Rattle.dkg_turn.specs.declared.view.Stage.TheVariants.{Idle, Waits, Holds}
use Rattle.dkg_turn.specs.History.{contains_number, calls_of, HasSeen, IsStamped, RunOf}
use Rattle.dkg_turn.specs.Rules.{HasTicket, ticket_in, AddsOne, InTurn, first_view, drawn, holding, rested, ViewFits, tickets_of, parts_of, Apart, tickets_in, holders_of, AtHome, IsOut, KeepsLockRule, looked, drew_one, TookNode, came, passed_on}
use Rattle.dkg_turn.specs.Rules.{MayGive, with_numbers, passed_named, spent, PartOf, settled_join}
use Rattle.dkg_turn.proofs.Histories.{calls_of-append, no_call, fewer, empty_part, nil_left, stamped_adds}
use Rattle.dkg_turn.specs.Known.{AreDrawn}
use Rattle.dkg_turn.proofs.Whole.{whole_knows, its_tickets, none_above}

pub set_at : {A : Type 0} (l : List A) (i : ℕ) (a b : A) → get_elem? l i ≡ some a → get_elem? (set l i b) i ≡ some b
set_at [] i a b e = absurd (some-ne-none a (sym e))
set_at (x ∷ xs) zero a b e = refl
set_at (x ∷ xs) (suc i) a b e = set_at xs i a b e

pub has_later : (m : ℕ) (ns : List ℕ) (n : ℕ) → contains_number ns n ≡ true → contains_number (m ∷ ns) n ≡ true
has_later m ns n h = ap (λ b. (m == n) || b) h ∙ or_true (m == n)
  where
    or_true : (b : Bool) → (b || true) ≡ true
    or_true true = refl
    or_true false = refl

pub has_cons : (m : ℕ) (ns : List ℕ) (n : ℕ) → contains_number (m ∷ ns) n ≡ true → (m ≡ n) ⊎ (contains_number ns n ≡ true)
has_cons m ns n h = dite (ℕ_discrete m n) (λ e. inl e) (λ ne. inr (sym (ap (λ b. b || contains_number ns n) (ne_eqb m n ne)) ∙ h))

abbrev pub is_idle : Stage → Bool
is_idle Idle = true
is_idle _ = false

abbrev pub is_waiting : Stage → Bool
is_waiting (Waits t) = true
is_waiting _ = false

module _ {C R : Type 0} where
  more_tickets : (a b serving : ℕ) (log seen : List (HistoryEntry C R)) (st : Stage) → a ≤ b → InTurn a serving log seen st → InTurn b serving log seen st
  more_tickets a b serving log seen Idle le k = tt
  more_tickets a b serving log seen (Waits t) le k = let x = k.1 in (k.0, omega arith)
  more_tickets a b serving log seen (Holds t) le k = let x = k.1 in (k.0, omega arith, k.2)

  ticket_below : (tickets serving : ℕ) (log seen : List (HistoryEntry C R)) (st : Stage) (t : ℕ) → HasTicket st t → InTurn tickets serving log seen st → t < tickets
  ticket_below tickets serving log seen Idle t h k = absurd h
  ticket_below tickets serving log seen (Waits u) t h k = let x = k.1 in omega arith
  ticket_below tickets serving log seen (Holds u) t h k = let x = k.1 in omega arith

  -- the turn goes on, where this pass has not had it
  next_turn : (tickets serving : ℕ) (log seen log' : List (HistoryEntry C R)) (st : Stage) → ¬ (HasTicket st serving) → InTurn tickets serving log seen st → InTurn tickets (serving + 1) log' seen st
  next_turn tickets serving log seen log' Idle h k = tt
  next_turn tickets serving log seen log' (Waits t) h k = let low = k.0 in let ne : t ≢ serving = h in (omega arith, k.1)
  next_turn tickets serving log seen log' (Holds t) h k = absurd (h (sym k.0))

  not_n : (n : ℕ) (e : HistoryEntry C R) → n ≢ e.caller → calls_of (n ∷ []) (e ∷ []) ≡ []
  not_n n e other = no_call (n ∷ []) e (λ h. true≢false (sym h ∙ ap (λ b. b || false) (ne_eqb n e.caller other)))

  abbrev after_one : List (HistoryEntry C R) → List (HistoryEntry C R)
  after_one [] = []
  after_one (x ∷ xs) = xs

  abbrev one_or : HistoryEntry C R → List (HistoryEntry C R) → HistoryEntry C R
  one_or d [] = d
  one_or d (x ∷ xs) = x

  -- of two beginnings of one history, the shorter begins the longer
  one_begins : (a b log r1 r2 : List (HistoryEntry C R)) → log ≡ a ++ r1 → log ≡ b ++ r2 → length a ≤ length b → (mid : List (HistoryEntry C R)) × (b ≡ a ++ mid) × (r1 ≡ mid ++ r2)
  one_begins [] b log r1 r2 p q le = (b, refl, sym p ∙ q)
  one_begins (x ∷ xs) [] log r1 r2 p q le = absurd (omega arith)
  one_begins (x ∷ xs) (y ∷ ys) log r1 r2 p q le = let both : x ∷ (xs ++ r1) ≡ y ∷ (ys ++ r2) = sym p ∙ q in let k = one_begins xs ys (xs ++ r1) r1 r2 refl (ap after_one both) (omega arith) in
      (k.0, (λ i. one_or y (sym both i) ∷ k.1 i), k.2)

  within : (ns : List ℕ) (a b log r2 : List (HistoryEntry C R)) → HasSeen ns a log → log ≡ b ++ r2 → length a ≤ length b → HasSeen ns a b
  within ns a b log r2 h q le = let k = one_begins a b log h.0 r2 h.1 q le in
      (k.0, k.1, nil_left (calls_of ns k.0) (calls_of ns r2) (sym (calls_of-append ns k.0 r2) ∙ ap (calls_of ns) (sym k.2) ∙ h.2))

  grow_seen : (ns : List ℕ) (seen log ext : List (HistoryEntry C R)) → HasSeen ns seen log → calls_of ns ext ≡ [] → HasSeen ns seen (log ++ ext)
  grow_seen ns seen log ext h q = (h.0 ++ ext, ap (λ l. l ++ ext) h.1 ∙ append_assoc seen h.0 ext, calls_of-append ns h.0 ext ∙ (λ i. h.2 i ++ q i))

  grow_part : (numbers few : List ℕ) (seen log ext : List (HistoryEntry C R)) → PartOf numbers few seen log → calls_of numbers ext ≡ [] → PartOf numbers few seen (log ++ ext)
  grow_part numbers few seen log ext h q = (h.0, grow_seen few seen log ext h.1 (fewer few numbers h.0 ext q))

  seen_all : (ns : List ℕ) (log : List (HistoryEntry C R)) → HasSeen ns log log
  seen_all ns log = ([], sym (append-nil log), refl)

  -- the calls that others do not have
  not_theirs : (t : ℕ) (mine theirs : List ℕ) (ext : List (HistoryEntry C R)) → AddsOne t mine ext → ((n : ℕ) → contains_number mine n ≡ true → ¬ (contains_number theirs n ≡ true)) → calls_of theirs ext ≡ []
  not_theirs t mine theirs ext adds apart = ⊎_elim (λ (e : ext ≡ []). ap (calls_of theirs) e)
      (λ (x : (e : HistoryEntry C R) × (ext ≡ e ∷ []) × (contains_number mine e.caller ≡ true) × (e.ticket ≡ t)). ap (calls_of theirs) x.1 ∙ no_call theirs x.0 (apart x.0.caller x.2)) adds

module _ {T C R : Type 0} where
  pub tickets_of-set : (l : List (View T C R)) (i : ℕ) (v w : View T C R) → get_elem? l i ≡ some v → tickets_of (set l i w) + v.drew ≡ tickets_of l + w.drew
  tickets_of-set [] i v w e = absurd (some-ne-none v (sym e))
  tickets_of-set (x ∷ xs) zero v w e = let is : x.drew ≡ v.drew = ap (λ (m : View T C R). m.drew) (some-injective x v e) in omega arith
  tickets_of-set (x ∷ xs) (suc i) v w e = let r = tickets_of-set xs i v w e in omega arith

  pub parts_of-set : (l : List (View T C R)) (i : ℕ) (v w : View T C R) → get_elem? l i ≡ some v → parts_of (set l i w) + v.parts ≡ parts_of l + w.parts
  parts_of-set [] i v w e = absurd (some-ne-none v (sym e))
  parts_of-set (x ∷ xs) zero v w e = let is : x.parts ≡ v.parts = ap (λ (m : View T C R). m.parts) (some-injective x v e) in omega arith
  parts_of-set (x ∷ xs) (suc i) v w e = let r = parts_of-set xs i v w e in omega arith

  pub holders_of-set : (l : List (View T C R)) (i : ℕ) (v w : View T C R) → get_elem? l i ≡ some v → holders_of (set l i w) + tickets_in v.stage ≡ holders_of l + tickets_in w.stage
  holders_of-set [] i v w e = absurd (some-ne-none v (sym e))
  holders_of-set (x ∷ xs) zero v w e = let is : tickets_in x.stage ≡ tickets_in v.stage = ap (λ (m : View T C R). tickets_in m.stage) (some-injective x v e) in omega arith
  holders_of-set (x ∷ xs) (suc i) v w e = let r = holders_of-set xs i v w e in omega arith

  pub still_out : (serving id : ℕ) (homes : List (maybe.Option (Option (Node T C R)))) (views : List (View T C R)) (v w : View T C R) → get_elem? views id ≡ some v → ¬ (v.stage ≡ Holds serving)
      → IsOut serving homes views → IsOut serving homes (set views id w)
  still_out serving id homes views v w at not out = let x = out.1 in dite (ℕ_discrete x.0 id)
      (λ same. absurd (not (subst (λ (u : View T C R). u.stage ≡ Holds serving) (some-injective x.1 v (sym (subst (λ (i : ℕ). get_elem? views i ≡ some x.1) same x.2) ∙ at)) x.3)))
      (λ other. (out.0, (x.0, x.1, set_else views id x.0 w other ∙ x.2, x.3)))

  same_out : (serving id : ℕ) (homes : List (maybe.Option (Option (Node T C R)))) (views : List (View T C R)) (v w : View T C R) → get_elem? views id ≡ some v → (v.stage ≡ Holds serving → w.stage ≡ Holds serving)
      → IsOut serving homes views → IsOut serving homes (set views id w)
  same_out serving id homes views v w at keep out = let x = out.1 in dite (ℕ_discrete x.0 id)
      (λ same. (out.0, (id, w, set_at views id v w at, keep (subst (λ (u : View T C R). u.stage ≡ Holds serving) (some-injective x.1 v (sym (subst (λ (i : ℕ). get_elem? views i ≡ some x.1) same x.2) ∙ at)) x.3))))
      (λ other. (out.0, (x.0, x.1, set_else views id x.0 w other ∙ x.2, x.3)))

  numbered_id : (v : View T C R) → with_numbers v.numbers v ≡ v
  numbered_id v = refl

  -- no other pass than the one at id has this ticket, or this number
  abbrev pub Alone : List (View T C R) → ℕ → View T C R → Type 0
  Alone views id w =
      ((t : ℕ) → HasTicket w.stage t → (j : ℕ) (u : View T C R) → j ≢ id → get_elem? views j ≡ some u → ¬ (HasTicket u.stage t))
      × ((n : ℕ) → contains_number w.numbers n ≡ true → (j : ℕ) (u : View T C R) → j ≢ id → get_elem? views j ≡ some u → ¬ (contains_number u.numbers n ≡ true))

  abbrev pub Between : View T C R → View T C R → Type 0
  Between a b = ((t : ℕ) → HasTicket a.stage t → ¬ (HasTicket b.stage t)) × ((n : ℕ) → contains_number a.numbers n ≡ true → ¬ (contains_number b.numbers n ≡ true))

  pub apart_set : (views : List (View T C R)) (id : ℕ) (w : View T C R) → Apart views → Alone views id w → Apart (set views id w)
  apart_set views id w old alone i j a b ea eb ij =
      ⊎_elim
      (λ (x : (i ≡ id) × (w ≡ a)). ⊎_elim (λ (y : (j ≡ id) × (w ≡ b)). absurd (ij (x.0 ∙ sym y.0)))
      (λ (y : (j ≢ id) × (get_elem? views j ≡ some b)). subst (λ (z : View T C R). Between z b) x.1 ((λ t h. alone.0 t h j b y.0 y.1), (λ n h. alone.1 n h j b y.0 y.1)))
      (at_set views id j w b eb))
      (λ (x : (i ≢ id) × (get_elem? views i ≡ some a)). ⊎_elim (λ (y : (j ≡ id) × (w ≡ b)). subst (λ (z : View T C R). Between a z) y.1 ((λ t h g. alone.0 t g i a x.0 x.1 h), (λ n h g. alone.1 n g i a x.0 x.1 h)))
      (λ (y : (j ≢ id) × (get_elem? views j ≡ some b)). old i j a b x.1 y.1 ij)
      (at_set views id j w b eb))
      (at_set views id i w a ea)

module _ {T C R : Type 0} (turns : T → C → R → T → Type 0) (start : T) where
  abbrev S : Type 0
  S = State (Option (Node T C R)) (View T C R)

  abbrev M : Type 0
  M = Me (Option (Node T C R)) (View T C R)

  abbrev Rule : S → Type 0
  Rule = KeepsLockRule turns start

  -- the pass at id goes from v to w
  moved : (s : S) (r : Rule s) (id : ℕ) (v w : View T C R) (tickets serving : ℕ) (log : List (HistoryEntry C R)) (words : List ℕ) (homes : List (maybe.Option (Option (Node T C R))))
      → get_elem? s.views id ≡ some v → words ≡ tickets ∷ serving ∷ [] → tickets < 2 ^ 64 → serving ≤ tickets → IsStamped 0 serving log
      → tickets + v.drew ≡ r.tickets + w.drew → tickets + tickets_in v.stage + r.serving ≡ r.tickets + tickets_in w.stage + serving → w.parts ≡ v.parts
      → AtHome turns start log homes ⊎ IsOut serving homes (set s.views id w)
      → ((j : ℕ) (u : View T C R) → j ≢ id → get_elem? s.views j ≡ some u → ViewFits start r.tickets r.serving r.log u → ViewFits start tickets serving log u)
      → ViewFits start tickets serving log w
      → Alone s.views id w
      → ((n : ℕ) → contains_number v.numbers n ≡ true → contains_number w.numbers n ≡ true)
      → ((n : ℕ) → calls_of (n ∷ []) log ≢ [] → (calls_of (n ∷ []) r.log ≢ []) ⊎ (contains_number w.numbers n ≡ true))
      → Rule record { words = words; homes = homes; views = set s.views id w }
  moved s r id v w tickets serving log words homes at ws narrow below stamped drew held parts node others mine alone numbers kept = record {
    tickets = tickets;
    serving = serving;
    log = log;
    words = ws;
    narrow = narrow;
    below = below;
    stamped = stamped;
    drawn_by_all = let a = tickets_of-set s.views id v w at in let b = r.drawn_by_all in omega arith;
    held_by_all = let a = holders_of-set s.views id v w at in let b = r.held_by_all in omega arith;
    parts_of_all = let a = parts_of-set s.views id v w at in let b = r.parts_of_all in omega arith;
    node = node;
    each = λ j u e. ⊎_elim (λ (t : (j ≡ id) × (w ≡ u)). subst (ViewFits start tickets serving log) t.1 mine)
        (λ (t : (j ≢ id) × (get_elem? s.views j ≡ some u)). others j u t.0 t.1 (r.each j u t.1)) (at_set s.views id j w u e);
    apart = apart_set s.views id w r.apart alone;
    kept_by_one = λ n h. ⊎_elim
        (λ (old : calls_of (n ∷ []) r.log ≢ []). let k = r.kept_by_one n old in dite (ℕ_discrete k.0 id)
        (λ same. (id, w, set_at s.views id v w at, numbers n (subst (λ (u : View T C R). contains_number u.numbers n ≡ true) (some-injective k.1 v (sym (subst (λ (i : ℕ). get_elem? s.views i ≡ some k.1) same k.2) ∙ at)) k.3)))
        (λ other. (k.0, k.1, set_else s.views id k.0 w other ∙ k.2, k.3)))
        (λ (own : contains_number w.numbers n ≡ true). (id, w, set_at s.views id v w at, own))
        (kept n h);
  }

  -- a step that changes nothing
  unmoved : (s : S) (r : Rule s) (i id : ℕ) (me : M) → get_elem? s.views id ≡ some me.0 → Rule (stepped s i (get_or s.words i 0) id me.1 me.0 keeps)
  unmoved s r i id me at = subst (λ (z : List ℕ × List (View T C R)). Rule record { words = z.0; homes = s.homes; views = z.1 }) (λ k. (sym (set-get_or s.words i 0) k, sym (set_again s.views id me.0 at) k)) r

  pub looks : (slots id : ℕ) (me : M) → Allows Rule slots id me 0 (λ x. x) (looked (step slots 0 0 0 none) me)
  looks slots id me s r _ at _ = let x : ℕ = get_or s.words 0 0 in let v : View T C R = me.0 in let w : View T C R = spent v in let is : x ≡ r.tickets = ap (λ (ws : List ℕ). get_or ws 0 0) r.words in let F = r.each id v at in
      let after : M = (w, me.1) in
      let known : v.exhausted ≡ true → x + 1 ≡ 2 ^ 64 = λ d. let q = F.told d in omega arith in
      let all : AreDrawn x v.drew v.parts = subst (λ (n : ℕ). AreDrawn n v.drew v.parts) (sym is) (its_tickets turns start s r id v at) in
      dite (ℕ_discrete x 18446744073709551615)
      (λ hit. (
        w,
        keeps,
        tt,
        moved s r id v w r.tickets r.serving r.log (set s.words 0 x) s.homes at (set-get_or s.words 0 0 ∙ r.words) r.narrow r.below r.stamped refl refl refl
            (⊎_elim (λ h. inl h) (λ out. inr (same_out r.serving id s.homes s.views v w at (λ h. h) out)) r.node)
            (λ j u ne e f. f)
            record { starts = F.starts; begins = F.begins; turn = F.turn; named = F.named; nothing = F.nothing; told = λ d. omega arith; passed = F.passed; theirs = F.theirs; ours = F.ours }
            ((λ t h j u ne e. (r.apart id j v u at e (λ q. ne (sym q))).0 t h), (λ n h j u ne e. (r.apart id j v u at e (λ q. ne (sym q))).1 n h))
            (λ n h. h)
            (λ n h. inl h),
        (subst (λ b. MatchBool b (after ≡ after) (after ≡ me)) (sym (eq-eqb x 18446744073709551615 hit)) refl, known, all),
      ))
      (λ miss. (v, keeps, tt, unmoved s r 0 id me at, (subst (λ b. MatchBool b (me ≡ after) (me ≡ me)) (sym (ne_eqb x 18446744073709551615 miss)) refl, known, all)))

  pub settles : (slots id : ℕ) (me : M) → Allows Rule slots id me 0 (λ x. x) (settled_join (step slots 0 0 0 none) me)
  settles slots id me s r _ at _ = let F = r.each id me.0 at in (me.0, keeps, tt, unmoved s r 0 id me at, (refl, (λ short. within me.0.also_of me.0.also me.0.seen r.log F.begins.0 F.theirs.1 F.begins.1 short), (λ short. within me.0.ours_of me.0.ours me.0.seen r.log F.begins.0 F.ours.1 F.begins.1 short), λ told. let all : r.tickets + 1 ≡ 2 ^ 64 = F.told told in let all' : r.tickets ≡ 2 ^ 64 - 1 = omega arith in subst (λ (n : ℕ). AreDrawn n me.0.drew me.0.parts) all' (its_tickets turns start s r id me.0 at)))

  abbrev serving_of : S → ℕ
  serving_of s = get_or s.words 1 0

  tickets_are : (s : S) (r : Rule s) → get_or s.words 0 0 ≡ r.tickets
  tickets_are s r = ap (λ (ws : List ℕ). get_or ws 0 0) r.words

  serving_is : (s : S) (r : Rule s) → get_or s.words 1 0 ≡ r.serving
  serving_is s r = ap (λ (ws : List ℕ). get_or ws 1 0) r.words

  abbrev carried : Node T C R → List (ℕ × Option (Node T C R))
  carried node = (0, Some node) ∷ []

  abbrev nothing : List (ℕ × Option (Node T C R))
  nothing = []

  abbrev with_node : View T C R → Node T C R → M
  with_node v node = (v, carried node)

  abbrev with_none : View T C R → M
  with_none v = (v, [])

  pub draws : (slots id : ℕ) (me : M) (old new : ℕ) → me.0.stage ≡ Idle → 0 < me.0.parts → new ≡ old + 1 → new < 2 ^ 64 → Allows Rule slots id me 0 (λ x. either (eqb x old) new x) (drew_one (step slots 0 old new none) me)
  draws slots id me old new idle whole up small s r _ at _ = let x : ℕ = get_or s.words 0 0 in let v : View T C R = me.0 in let w : View T C R = drawn old v in let is = tickets_are s r in let after : M = (w, me.1) in
      let F = r.each id v at in
      dite (ℕ_discrete x old)
      (λ hit. (
        w,
        keeps,
        tt,
        subst (λ b. Rule (stepped s 0 (either b new x) id me.1 w keeps)) (sym (eq-eqb x old hit))
            (moved s r id v w new r.serving r.log (set s.words 0 new) s.homes at (ap (λ (ws : List ℕ). set ws 0 new) r.words) small (let b = r.below in omega arith) r.stamped (omega arith) (let e : tickets_in v.stage ≡ 0 = ap tickets_in idle in omega arith) refl
            (⊎_elim (λ h. inl h) (λ out. inr (still_out r.serving id s.homes s.views v w at (λ h. true≢false (sym (ap is_idle idle) ∙ ap is_idle h)) out)) r.node)
            (λ j u ne e f. record { starts = f.starts; begins = f.begins; turn = more_tickets r.tickets new r.serving r.log u.seen u.stage (omega arith) f.turn; named = f.named; nothing = f.nothing; told = λ d. let q = f.told d in absurd (omega arith); passed = f.passed; theirs = f.theirs; ours = f.ours })
            record { starts = F.starts; begins = F.begins; turn = (let b = r.below in omega arith, omega arith); named = F.named; nothing = λ z. absurd (omega arith); told = λ d. let q = F.told d in absurd (omega arith); passed = F.passed; theirs = F.theirs; ours = F.ours }
            ((λ t h j u ne e g. let b = ticket_below r.tickets r.serving r.log u.seen u.stage t g ((r.each j u e).turn) in omega arith), (λ n h j u ne e. (r.apart id j v u at e (λ q. ne (sym q))).1 n h))
            (λ n h. h)
            (λ n h. inl h)),
        subst (λ b. MatchBool b ((after ≡ after) × (v.parts ≡ 2 ^ 64 → v.drew ≡ old)) (after ≡ me)) (sym (eq-eqb x old hit)) (refl, λ p. sym ((whole_knows turns start s r id v at p).0) ∙ sym is ∙ hit),
      ))
      (λ miss. (
        v,
        keeps,
        tt,
        subst (λ b. Rule (stepped s 0 (either b new x) id me.1 v keeps)) (sym (ne_eqb x old miss)) (unmoved s r 0 id me at),
        subst (λ b. MatchBool b ((me ≡ after) × (v.parts ≡ 2 ^ 64 → v.drew ≡ old)) (me ≡ me)) (sym (ne_eqb x old miss)) refl,
      ))

  pub comes : (slots id : ℕ) (v : View T C R) (t : ℕ) → v.stage ≡ Waits t → 0 < v.parts → Allows Rule slots id (v, []) 1 (λ x. x) (came turns (step slots 1 0 0 none) (v, []))
  comes slots id v t waits whole s r _ at _ = let x : ℕ = get_or s.words 1 0 in let is = serving_is s r in let F = r.each id v at in
      let mine : ticket_in v.stage ≡ t = ap ticket_in waits in
      let turn : InTurn r.tickets r.serving r.log v.seen (Waits t) = subst (InTurn r.tickets r.serving r.log v.seen) waits F.turn in
      let own : HasTicket v.stage t = subst (λ (st : Stage). HasTicket st t) (sym waits) refl in
      dite (ℕ_discrete x (ticket_in v.stage))
      (λ hit. ⊎_elim
      (λ (home : AtHome turns start r.log s.homes). let node : Node T C R = home.0 in let w : View T C R = holding (ticket_in v.stage) node.history.items v in (
        w,
        takes 0 (Some node),
        ap (λ (hs : List (maybe.Option (Option (Node T C R)))). get_elem? hs 0) home.1,
        moved s r id v w r.tickets r.serving r.log (set s.words 1 x) (set s.homes 0 none) at (set-get_or s.words 1 0 ∙ r.words) r.narrow r.below r.stamped refl (let e : tickets_in v.stage ≡ 1 = ap tickets_in waits in omega arith) refl
            (inr (ap (λ (hs : List (maybe.Option (Option (Node T C R)))). set hs 0 none) home.1, (id, w, set_at s.views id v w at, ap Holds (sym hit ∙ is))))
            (λ j u ne e f. f)
            record {
              starts = F.starts;
              begins = subst (λ (l : List (HistoryEntry C R)). HasSeen v.numbers l r.log) (sym home.2) (seen_all v.numbers r.log);
              turn = let a = turn.0 in let q : r.serving ≡ ticket_in v.stage = sym is ∙ hit in (q, (let b = turn.1 in omega arith), home.2);
              named = F.named;
              nothing = F.nothing;
              told = F.told;
              passed = F.passed;
              theirs = empty_part _ r.log;
              ours = empty_part _ r.log;
            }
            ((λ t' h j u ne e. (r.apart id j v u at e (λ q. ne (sym q))).0 t' (subst (HasTicket v.stage) (sym mine ∙ h) own)), (λ n h j u ne e. (r.apart id j v u at e (λ q. ne (sym q))).1 n h))
            (λ n h. h)
            (λ n h. inl h),
        subst (λ b. MatchBool b ((n : Node T C R) × (carried node ≡ carried n) × TookNode turns (ticket_in v.stage) v n w) (with_node w node ≡ with_none v)) (sym (eq-eqb x (ticket_in v.stage) hit)) (
          node,
          refl,
          record {
            now = refl;
            begins = subst (HasSeen v.numbers v.seen) (sym home.2) F.begins;
            run = subst (λ (z : Option T × List (HistoryEntry C R)). RunOf turns z.0 z.1 node.value) (λ i. (sym (F.starts whole) i, sym home.2 i)) home.3;
            stamped = subst (λ (z : ℕ × List (HistoryEntry C R)). IsStamped 0 z.0 z.1) (λ i. ((sym is ∙ hit) i, sym home.2 i)) r.stamped;
            above = λ n lt. let q : r.serving ≡ ticket_in v.stage = sym is ∙ hit in subst (λ (l : List (HistoryEntry C R)). calls_of (n ∷ []) l ≡ []) (sym home.2) (none_above turns start s r n (omega arith));
            later = let a = F.passed in omega arith;
            whole = λ p. subst (λ (l : List (HistoryEntry C R)). calls_of v.numbers l ≡ l) (sym home.2) ((whole_knows turns start s r id v at p).1);
          },
        ),
      ))
      (λ (out : IsOut r.serving s.homes s.views). let o = out.1 in let q : t ≡ r.serving = sym mine ∙ sym hit ∙ is in absurd (dite (ℕ_discrete o.0 id)
      (λ same. true≢false (sym (ap is_waiting waits) ∙ ap is_waiting (subst (λ (u : View T C R). u.stage ≡ Holds r.serving) (some-injective o.1 v (sym (subst (λ (i : ℕ). get_elem? s.views i ≡ some o.1) same o.2) ∙ at)) o.3)))
      (λ other. (r.apart id o.0 v o.1 at o.2 (λ e. other (sym e))).0 t own (subst (λ (st : Stage). HasTicket st t) (sym o.3) (sym q)))))
      r.node)
      (λ miss. (
        v,
        keeps,
        tt,
        unmoved s r 1 id (v, []) at,
        subst (λ b. MatchBool b ((n : Node T C R) × (nothing ≡ carried n) × TookNode turns (ticket_in v.stage) v n v) (with_none v ≡ with_none v)) (sym (ne_eqb x (ticket_in v.stage) miss)) refl,
      ))

  abbrev after : ℕ → View T C R → Node T C R → List ℕ → M
  after t v node ns = (with_numbers ns (rested t node.history.items v), [])

  passes_at : (slots id : ℕ) (v : View T C R) (node : Node T C R) (t : ℕ) (ext : List (HistoryEntry C R)) (ns : List ℕ) → ((n : ℕ) → contains_number v.numbers n ≡ true → contains_number ns n ≡ true) → ((n : ℕ) → contains_number ns n ≡ true → (contains_number v.numbers n ≡ true) ⊎ (n ≡ t + 1)) → v.stage ≡ Holds t → node.history.items ≡ v.seen ++ ext → AddsOne t v.numbers ext → 0 < v.parts → RunOf turns v.start node.history.items node.value
      → Allows Rule slots id (v, (0, Some node) ∷ []) 1 (λ n. (n + 1) % 2 ^ 64) (λ r m'. (m' ≡ after t v node ns) × ¬ (contains_number v.numbers (t + 1) ≡ true))
  passes_at slots id v node t ext ns sub new holds grown adds whole run s r _ at _ = let x : ℕ = get_or s.words 1 0 in let is = serving_is s r in let F = r.each id v at in
      let turn : InTurn r.tickets r.serving r.log v.seen (Holds t) = subst (InTurn r.tickets r.serving r.log v.seen) holds F.turn in
      let own : HasTicket v.stage r.serving = subst (λ (st : Stage). HasTicket st r.serving) (sym holds) (sym turn.0) in
      let log : List (HistoryEntry C R) = node.history.items in let w : View T C R = with_numbers ns (rested t log v) in
      let longer : r.log ++ ext ≡ log = ap (λ l. l ++ ext) (sym turn.2) ∙ sym grown in
      let a = turn.0 in let b = turn.1 in let c = r.narrow in let up : (x + 1) % 2 ^ 64 ≡ r.serving + 1 = omega arith in
      let back : List (maybe.Option (Option (Node T C R))) → List (maybe.Option (Option (Node T C R))) = λ hs. set hs 0 (some (Some node)) in (
        w,
        gives,
        tt,
        moved s r id v w r.tickets (r.serving + 1) log (set s.words 1 ((x + 1) % 2 ^ 64)) (back s.homes) at (λ i. set (r.words i) 1 (up i)) r.narrow (omega arith) (subst (λ (z : ℕ × List (HistoryEntry C R)). IsStamped 0 (z.0 + 1) z.1) (λ i. (sym a i, longer i)) (stamped_adds t v.numbers r.log ext adds (subst (λ (n : ℕ). IsStamped 0 n r.log) a r.stamped))) refl (let e : tickets_in v.stage ≡ 1 = ap tickets_in holds in omega arith) refl
            (inl (node, (⊎_elim (λ (h : AtHome turns start r.log s.homes). ap back h.1) (λ (o : IsOut r.serving s.homes s.views). ap back o.0) r.node), refl, subst (λ (z : Option T). RunOf turns z log node.value) (F.starts whole) run))
            (λ j u ne e f. let ap_ = r.apart id j v u at e (λ q. ne (sym q)) in let theirs = not_theirs t v.numbers u.numbers ext adds ap_.1 in record {
              starts = f.starts;
              begins = subst (HasSeen u.numbers u.seen) longer (grow_seen u.numbers u.seen r.log ext f.begins theirs);
              turn = next_turn r.tickets r.serving r.log u.seen log u.stage (ap_.0 r.serving own) f.turn;
              named = λ n h. let l = f.named n h in omega arith;
              nothing = f.nothing;
              told = f.told;
              passed = let l = f.passed in omega arith;
              theirs = subst (PartOf u.numbers u.also_of u.also) longer (grow_part u.numbers u.also_of u.also r.log ext f.theirs theirs);
              ours = subst (PartOf u.numbers u.ours_of u.ours) longer (grow_part u.numbers u.ours_of u.ours r.log ext f.ours theirs);
            })
            record {
              starts = F.starts;
              begins = seen_all ns log;
              turn = tt;
              named = λ n h. ⊎_elim (λ (o : contains_number v.numbers n ≡ true). let l = F.named n o in omega arith) (λ (o : n ≡ t + 1). omega arith) (new n h);
              nothing = λ z. absurd (omega arith);
              told = F.told;
              passed = omega arith;
              theirs = empty_part _ log;
              ours = empty_part _ log;
            }
            ((λ t' h. absurd h), (λ n h j u ne e g. ⊎_elim (λ (o : contains_number v.numbers n ≡ true). (r.apart id j v u at e (λ q. ne (sym q))).1 n o g) (λ (o : n ≡ t + 1). let l = (r.each j u e).named n g in omega arith) (new n h)))
            sub
            (λ n h. ⊎_elim (λ (e : ext ≡ []). inl (λ z. h (ap (calls_of (n ∷ [])) (sym longer ∙ ap (λ l. r.log ++ l) e ∙ append-nil r.log) ∙ z)))
            (λ (y : (e : HistoryEntry C R) × (ext ≡ e ∷ []) × (contains_number v.numbers e.caller ≡ true) × (e.ticket ≡ t)). dite (ℕ_discrete n y.0.caller)
            (λ same. inr (sub n (subst (λ (m : ℕ). contains_number v.numbers m ≡ true) (sym same) y.2)))
            (λ other. inl (λ z. h (ap (calls_of (n ∷ [])) (sym longer) ∙ calls_of-append (n ∷ []) r.log ext ∙ (λ i. z i ++ (ap (calls_of (n ∷ [])) y.1 ∙ not_n n y.0 other) i)))))
            adds),
        (refl, λ h. let l = F.named (t + 1) h in omega arith),
      )

  passes : (slots id : ℕ) (me : M) (node : Node T C R) (t : ℕ) (ext : List (HistoryEntry C R)) → me.1 ≡ (0, Some node) ∷ [] → me.0.stage ≡ Holds t → node.history.items ≡ me.0.seen ++ ext → AddsOne t me.0.numbers ext → 0 < me.0.parts → RunOf turns me.0.start node.history.items node.value
      → Allows Rule slots id me 1 (λ n. (n + 1) % 2 ^ 64) (passed_on (step slots 1 1 0 none) me)
  passes slots id me node t ext taken holds grown adds whole run = subst (λ (c : List (ℕ × Option (Node T C R))). Allows Rule slots id (me.0, c) 1 (λ n. (n + 1) % 2 ^ 64) (passed_on (step slots 1 1 0 none) (me.0, c))) (sym taken)
      (λ s r l at small. let mine : t ≡ ticket_in me.0.stage = sym (ap ticket_in holds) in let p = passes_at slots id me.0 node t ext me.0.numbers (λ n h. h) (λ n h. inl h) holds grown adds whole run s r l at small in
      (p.0, p.1, p.2, p.3, p.4.0 ∙ ap (λ (x : ℕ). after x me.0 node me.0.numbers) mine))

  names : (slots id : ℕ) (me : M) (node : Node T C R) (t : ℕ) (ext : List (HistoryEntry C R)) → me.1 ≡ (0, Some node) ∷ [] → me.0.stage ≡ Holds t → node.history.items ≡ me.0.seen ++ ext → AddsOne t me.0.numbers ext → 0 < me.0.parts → RunOf turns me.0.start node.history.items node.value
      → Allows Rule slots id me 1 (λ n. (n + 1) % 2 ^ 64) (passed_named (step slots 1 1 0 none) me)
  names slots id me node t ext taken holds grown adds whole run = subst (λ (c : List (ℕ × Option (Node T C R))). Allows Rule slots id (me.0, c) 1 (λ n. (n + 1) % 2 ^ 64) (passed_named (step slots 1 1 0 none) (me.0, c))) (sym taken)
      (λ s r l at small. let mine : t ≡ ticket_in me.0.stage = sym (ap ticket_in holds) in let p = passes_at slots id me.0 node t ext ((ticket_in me.0.stage + 1) ∷ me.0.numbers) (λ n h. has_later (ticket_in me.0.stage + 1) me.0.numbers n h) (λ n h. ⊎_elim (λ e. inr (omega arith)) (λ o. inl o) (has_cons (ticket_in me.0.stage + 1) me.0.numbers n h)) holds grown adds whole run s r l at small in
      (p.0, p.1, p.2, p.3, (p.4.0 ∙ ap (λ (x : ℕ). after x me.0 node ((ticket_in me.0.stage + 1) ∷ me.0.numbers)) mine, subst (λ (x : ℕ). ¬ (contains_number me.0.numbers (x + 1) ≡ true)) mine p.4.1)))

  pub comes_as : (slots id : ℕ) (me : M) (t : ℕ) → me.1 ≡ [] → me.0.stage ≡ Waits t → 0 < me.0.parts → Allows Rule slots id me 1 (λ x. x) (came turns (step slots 1 0 0 none) me)
  comes_as slots id me t none_taken waits whole = subst (λ (c : List (ℕ × Option (Node T C R))). Allows Rule slots id (me.0, c) 1 (λ x. x) (came turns (step slots 1 0 0 none) (me.0, c))) (sym none_taken) (comes slots id me.0 t waits whole)

  pub passes_as : (slots id : ℕ) (me : M) (node : Node T C R) → me.1 ≡ (0, Some node) ∷ [] → MayGive turns me.0 node
      → Allows Rule slots id me 1 (λ n. (n + 1) % 2 ^ 64) (passed_on (step slots 1 1 0 none) me)
  passes_as slots id me node taken may = passes slots id me node may.ticket may.ext taken may.stage may.grown may.adds may.some_part may.run

  begins_at : (node : Node T C R) → node.history.items ≡ [] → start ≡ node.value → Rule (opening (0 ∷ 0 ∷ []) (Some node ∷ []) (first_view start))
  begins_at node fresh same = record {
    tickets = 0;
    serving = 0;
    log = [];
    words = refl;
    narrow = omega arith;
    below = omega arith;
    stamped = omega arith;
    drawn_by_all = refl;
    held_by_all = refl;
    parts_of_all = omega arith;
    node = inl (node, refl, fresh, same);
    each = one;
    apart = λ i j v w ei ej ne. absurd (ne (only i v ei ∙ sym (only j w ej)));
    kept_by_one = λ n h. absurd (h refl);
  }
    where
      first : View T C R
      first = first_view start

      only : (i : ℕ) (v : View T C R) → get_elem? (first_view {C = C} {R = R} start ∷ []) i ≡ some v → i ≡ 0
      only zero v e = refl
      only (suc i) v e = absurd (some-ne-none v (sym e))

      fits : ViewFits {T = T} {C = C} {R = R} start 0 0 [] (first_view start)
      fits = record { starts = λ _. refl; begins = ([], refl, refl); turn = tt; named = zero_only; nothing = λ z. absurd (omega arith); told = λ d. absurd (true≢false (sym d)); passed = omega arith; theirs = empty_part (0 ∷ []) []; ours = empty_part (0 ∷ []) [] }
        where
          zero_only : (n : ℕ) → contains_number (0 ∷ []) n ≡ true → n ≤ 0
          zero_only n h = dite (ℕ_discrete 0 n) (λ e. omega arith) (λ ne. absurd (true≢false (sym h ∙ ap (λ b. b || false) (ne_eqb 0 n ne))))

      one : (i : ℕ) (v : View T C R) → get_elem? (first_view {C = C} {R = R} start ∷ []) i ≡ some v → ViewFits start 0 0 [] v
      one zero v e = subst (ViewFits start 0 0 []) (some-injective _ v e) fits
      one (suc i) v e = absurd (some-ne-none v (sym e))

  pub begins : (node : Node T C R) (slots : List (Option (Node T C R))) → slots ≡ Some node ∷ [] → node.history.items ≡ [] → start ≡ node.value → Rule (opening (0 ∷ 0 ∷ []) slots (first_view start))
  begins node slots is fresh same = subst (λ l. Rule (opening (0 ∷ 0 ∷ []) l (first_view start))) (sym is) (begins_at node fresh same)

  pub names_as : (slots id : ℕ) (me : M) (node : Node T C R) → me.1 ≡ (0, Some node) ∷ [] → MayGive turns me.0 node
      → Allows Rule slots id me 1 (λ n. (n + 1) % 2 ^ 64) (passed_named (step slots 1 1 0 none) me)
  names_as slots id me node taken may = names slots id me node may.ticket may.ext taken may.stage may.grown may.adds may.some_part may.run
