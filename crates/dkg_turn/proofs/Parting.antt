-- A pass is cut in two, and two are made one.
use Rattle.std.proofs.Common.{◌≡◌, ◌≢◌, ◌⊎◌, ℕ, zero, suc, ◌+◌, ◌/◌, ◌<◌, ◌≤◌, ◌||◌, Bool, true, false, true≢false, List, [], ◌∷◌, ◌++◌, length, set, Option, refl, sym, ap, ◌∙◌, subst, inl, inr, ⊎_elim, arith, eq-eqb}
use mathlib.Core.Logic.{dite}
use mathlib.Core.Option.{some, some-injective, some-ne-none}
use native.Mathlib.Decide.{ℕ_discrete}
use lib.ListN.{get_elem?}
use Rattle.atomic_table.specs.Table.{State, Me, Splits, Joins}
use Rattle.atomic_table.proofs.Lists.{at_set, set_else, at_longer, at_last}
use Rattle.dkg_turn.specs.declared.turn.HistoryEntry.{HistoryEntry}
use Rattle.dkg_turn.specs.declared.view.Node.{Node}
use Rattle.dkg_turn.specs.declared.view.View.{View}
use Rattle.dkg_turn.specs.declared.view.Stage.TheVariants.{Idle, Holds}
use Rattle.dkg_turn.specs.History.{contains_number, put_if, calls_of, HasSeen, longer}
use Rattle.dkg_turn.specs.Rules.{head_of, tail_of, IsNewlyNamed, kept_part, given_part, both_views, nobody, ViewFits, tickets_in, tickets_of, holders_of, parts_of, Apart, IsOut, KeepsLockRule}
use Rattle.dkg_turn.proofs.Histories.{not_true, calls_of-append, bool_is, fewer, none_of, empty_part}
use Rattle.dkg_turn.proofs.Keeps.{set_at, has_later, has_cons, is_idle, tickets_of-set, holders_of-set, parts_of-set, Between, apart_set, still_out}

or_is : (a b : Bool) → (a || b) ≡ true → (a ≡ true) ⊎ (b ≡ true)
or_is true b h = inl refl
or_is false b h = inr h

or_false : (b : Bool) → (b || false) ≡ true → b ≡ true
or_false true h = refl
or_false false h = h

has_here : (m n : ℕ) (ns : List ℕ) → m ≡ n → contains_number (m ∷ ns) n ≡ true
has_here m n ns e = ap (λ b. b || contains_number ns n) (eq-eqb m n e)

pub has_append : (a b : List ℕ) (n : ℕ) → contains_number (a ++ b) n ≡ true → (contains_number a n ≡ true) ⊎ (contains_number b n ≡ true)
has_append [] b n h = inr h
has_append (m ∷ ms) b n h = ⊎_elim (λ e. inl (has_here m n ms e)) (λ o. ⊎_elim (λ p. inl (has_later m ms n p)) (λ q. inr q) (has_append ms b n o)) (has_cons m (ms ++ b) n h)

pub has_left : (a b : List ℕ) (n : ℕ) → contains_number a n ≡ true → contains_number (a ++ b) n ≡ true
has_left [] b n h = absurd (true≢false (sym h))
has_left (m ∷ ms) b n h = ⊎_elim (λ e. has_here m n (ms ++ b) e) (λ o. has_later m (ms ++ b) n (has_left ms b n o)) (has_cons m ms n h)

pub has_right : (a b : List ℕ) (n : ℕ) → contains_number b n ≡ true → contains_number (a ++ b) n ≡ true
has_right [] b n h = h
has_right (m ∷ ms) b n h = has_later m (ms ++ b) n (has_right ms b n h)

module _ {A : Type 0} where
  at_end : (l : List A) (a b : A) (j : ℕ) → get_elem? (l ++ a ∷ []) j ≡ some b → (get_elem? l j ≡ some b) ⊎ ((j ≡ length l) × (a ≡ b))
  at_end [] a b zero e = inr (refl, some-injective a b e)
  at_end [] a b (suc j) e = absurd (some-ne-none b (sym e))
  at_end (x ∷ xs) a b zero e = inl e
  at_end (x ∷ xs) a b (suc j) e = ⊎_elim (λ h. inl h) (λ (t : (j ≡ length xs) × (a ≡ b)). let q = t.0 in inr (omega arith, t.1)) (at_end xs a b j e)

  set_swap : (l : List A) (i j : ℕ) (a b : A) → i ≢ j → set (set l i a) j b ≡ set (set l j b) i a
  set_swap [] i j a b ne = refl
  set_swap (x ∷ xs) zero zero a b ne = absurd (ne refl)
  set_swap (x ∷ xs) zero (suc j) a b ne = refl
  set_swap (x ∷ xs) (suc i) zero a b ne = refl
  set_swap (x ∷ xs) (suc i) (suc j) a b ne = ap (λ l. x ∷ l) (set_swap xs i j a b (λ e. ne (ap suc e)))

  nil_right : (xs ys : List A) → xs ++ ys ≡ [] → ys ≡ []
  nil_right [] ys e = e
  nil_right (x ∷ xs) ys e = absurd (cc)

  abbrev after_first : List A → List A
  after_first [] = []
  after_first (x ∷ xs) = xs

  abbrev first_or : A → List A → A
  first_or d [] = d
  first_or d (x ∷ xs) = x

module _ {C R : Type 0} where
  pub none_both : (a b : List ℕ) (l : List (HistoryEntry C R)) → calls_of a l ≡ [] → calls_of b l ≡ [] → calls_of (a ++ b) l ≡ []
  none_both a b [] p q = refl
  none_both a b (x ∷ xs) p q = ⊎_elim
      (λ t. let h : x ∷ calls_of a xs ≡ [] = subst (λ z. put_if z x (calls_of a xs) ≡ []) t p in absurd (cc))
      (λ f. ⊎_elim
      (λ t. let h : x ∷ calls_of b xs ≡ [] = subst (λ z. put_if z x (calls_of b xs) ≡ []) t q in absurd (cc))
      (λ g. ap (λ z. put_if z x (calls_of (a ++ b) xs)) (not_true (contains_number (a ++ b) x.caller) (λ h. ⊎_elim (λ i. true≢false (sym i ∙ f)) (λ i. true≢false (sym i ∙ g)) (has_append a b x.caller h)))
      ∙ none_both a b xs (subst (λ z. put_if z x (calls_of a xs) ≡ []) f p) (subst (λ z. put_if z x (calls_of b xs) ≡ []) g q))
      (bool_is (contains_number b x.caller)))
      (bool_is (contains_number a x.caller))

  later : (ns : List ℕ) (a b : List (HistoryEntry C R)) → calls_of ns (a ++ b) ≡ [] → calls_of ns b ≡ []
  later ns a b e = nil_right (calls_of ns a) (calls_of ns b) (sym (calls_of-append ns a b) ∙ e)

  pub longer_left : (a b : List (HistoryEntry C R)) → length a ≤ length (longer a b)
  longer_left [] b = omega arith
  longer_left (x ∷ xs) [] = omega arith
  longer_left (x ∷ xs) (y ∷ ys) = let k = longer_left xs ys in omega arith

  pub longer_long : (a b : List (HistoryEntry C R)) → length b ≤ length (longer a b)
  longer_long [] b = omega arith
  longer_long (x ∷ xs) [] = omega arith
  longer_long (x ∷ xs) (y ∷ ys) = let k = longer_long xs ys in omega arith

  pub seen_longer : (ns ms : List ℕ) (a b log r1 r2 : List (HistoryEntry C R)) → log ≡ a ++ r1 → log ≡ b ++ r2 → calls_of ns r1 ≡ [] → calls_of ms r2 ≡ []
      → (rest : List (HistoryEntry C R)) × (log ≡ longer a b ++ rest) × (calls_of ns rest ≡ []) × (calls_of ms rest ≡ [])
  seen_longer ns ms [] b log r1 r2 p q x y = (r2, q, later ns b r2 (ap (calls_of ns) (sym q ∙ p) ∙ x), y)
  seen_longer ns ms (e ∷ es) [] log r1 r2 p q x y = (r1, p, x, later ms (e ∷ es) r1 (ap (calls_of ms) (sym p ∙ q) ∙ y))
  seen_longer ns ms (e ∷ es) (f ∷ fs) [] r1 r2 p q x y = absurd (cc)
  seen_longer ns ms (e ∷ es) (f ∷ fs) (z ∷ zs) r1 r2 p q x y = let k = seen_longer ns ms es fs zs r1 r2 (ap after_first p) (ap after_first q) x y in
      (k.0, (λ i. first_or z (p i) ∷ k.1 i), k.2, k.3)

module _ {T C R : Type 0} where
  tickets_of-snoc : (l : List (View T C R)) (w : View T C R) → tickets_of (l ++ w ∷ []) ≡ tickets_of l + w.drew
  tickets_of-snoc [] w = omega arith
  tickets_of-snoc (x ∷ xs) w = let r = tickets_of-snoc xs w in omega arith

  holders_of-snoc : (l : List (View T C R)) (w : View T C R) → holders_of (l ++ w ∷ []) ≡ holders_of l + tickets_in w.stage
  holders_of-snoc [] w = omega arith
  holders_of-snoc (x ∷ xs) w = let r = holders_of-snoc xs w in omega arith

  parts_of-snoc : (l : List (View T C R)) (w : View T C R) → parts_of (l ++ w ∷ []) ≡ parts_of l + w.parts
  parts_of-snoc [] w = omega arith
  parts_of-snoc (x ∷ xs) w = let r = parts_of-snoc xs w in omega arith

  flip : (a b : View T C R) → Between a b → Between b a
  flip a b h = ((λ t x y. h.0 t y x), (λ n x y. h.1 n y x))

  apart_snoc : (l : List (View T C R)) (w : View T C R) → Apart l → ((j : ℕ) (u : View T C R) → get_elem? l j ≡ some u → Between w u) → Apart (l ++ w ∷ [])
  apart_snoc l w old new i j a b ei ej ne = ⊎_elim
      (λ (x : get_elem? l i ≡ some a). ⊎_elim (λ (y : get_elem? l j ≡ some b). old i j a b x y ne) (λ (y : (j ≡ length l) × (w ≡ b)). subst (λ (z : View T C R). Between a z) y.1 (flip w a (new i a x))) (at_end l w b j ej))
      (λ (x : (i ≡ length l) × (w ≡ a)). ⊎_elim (λ (y : get_elem? l j ≡ some b). subst (λ (z : View T C R). Between z b) x.1 (new j b y)) (λ (y : (j ≡ length l) × (w ≡ b)). absurd (ne (x.0 ∙ sym y.0))) (at_end l w b j ej))
      (at_end l w a i ei)

  not_holding : (v : View T C R) (n : ℕ) → v.stage ≡ Idle → ¬ (v.stage ≡ Holds n)
  not_holding v n idle h = true≢false (sym (ap is_idle idle) ∙ ap is_idle h)

module _ {T C R : Type 0} (turns : T → C → R → T → Type 0) (start : T) where
  abbrev Rule : State (Option (Node T C R)) (View T C R) → Type 0
  Rule = KeepsLockRule turns start

  splits_at : (id : ℕ) (v : View T C R) (m : ℕ) (ns : List ℕ) → v.stage ≡ Idle → v.numbers ≡ m ∷ ns → ¬ (contains_number ns m ≡ true) → 2 ≤ v.parts → Splits Rule id v (kept_part ns v) (given_part m v)
  splits_at id v m ns idle is new two s r at =
      let F = r.each id v at in let L : View T C R = kept_part ns v in let G : View T C R = given_part m v in let vs : List (View T C R) = set s.views id L in
      let old : (n : ℕ) → contains_number ns n ≡ true → contains_number v.numbers n ≡ true = λ n h. subst (λ (l : List ℕ). contains_number l n ≡ true) (sym is) (has_later m ns n h) in
      let one : (n : ℕ) → contains_number (m ∷ []) n ≡ true → m ≡ n = λ n h. ⊎_elim (λ e. e) (λ (o : contains_number [] n ≡ true). absurd (true≢false (sym o))) (has_cons m [] n h) in
      let own : (n : ℕ) → contains_number (m ∷ []) n ≡ true → contains_number v.numbers n ≡ true = λ n h. subst (λ (l : List ℕ). contains_number l n ≡ true) (sym is) (has_here m n ns (one n h)) in
      let half : v.parts / 2 + v.parts / 2 ≤ v.parts = omega arith in
      let some_half : 0 < v.parts / 2 = omega arith in
      record {
        tickets = r.tickets;
        serving = r.serving;
        log = r.log;
        words = r.words;
        narrow = r.narrow;
        below = r.below;
        stamped = r.stamped;
        drawn_by_all = let a = tickets_of-snoc vs G in let b = tickets_of-set s.views id v L at in let c = r.drawn_by_all in omega arith;
        held_by_all = let a = holders_of-snoc vs G in let b = holders_of-set s.views id v L at in let c = r.held_by_all in let e : tickets_in v.stage ≡ 0 = ap tickets_in idle in omega arith;
        parts_of_all = let a = parts_of-snoc vs G in let b = parts_of-set s.views id v L at in let c = r.parts_of_all in omega arith;
        node = ⊎_elim (λ h. inl h) (λ (o : IsOut r.serving s.homes s.views). let x = still_out r.serving id s.homes s.views v L at (not_holding v r.serving idle) o in inr (x.0, (x.1.0, x.1.1, at_longer vs (G ∷ []) x.1.0 x.1.1 x.1.2, x.1.3))) r.node;
        each = λ j u e. ⊎_elim
            (λ (x : get_elem? vs j ≡ some u). ⊎_elim
            (λ (y : (j ≡ id) × (L ≡ u)). subst (ViewFits start r.tickets r.serving r.log) y.1 record { starts = λ _. F.starts (omega arith); begins = (F.begins.0, F.begins.1, fewer ns v.numbers old F.begins.0 F.begins.2); turn = tt; named = λ n h. F.named n (old n h); nothing = λ z. absurd (omega arith); told = F.told; passed = F.passed; theirs = empty_part ns r.log; ours = empty_part ns r.log })
            (λ (y : (j ≢ id) × (get_elem? s.views j ≡ some u)). r.each j u y.1)
            (at_set s.views id j L u x))
            (λ (x : (j ≡ length vs) × (G ≡ u)). subst (ViewFits start r.tickets r.serving r.log) x.1 record { starts = λ _. F.starts (omega arith); begins = (F.begins.0, F.begins.1, fewer (m ∷ []) v.numbers own F.begins.0 F.begins.2); turn = tt; named = λ n h. F.named n (own n h); nothing = λ z. absurd (omega arith); told = F.told; passed = F.passed; theirs = empty_part (m ∷ []) r.log; ours = empty_part (m ∷ []) r.log })
            (at_end vs G u j e);
        apart = apart_snoc vs G
            (apart_set s.views id L r.apart ((λ t h. absurd h), (λ n h j u ne e. (r.apart id j v u at e (λ q. ne (sym q))).1 n (old n h))))
            (λ j u e. ⊎_elim
            (λ (y : (j ≡ id) × (L ≡ u)). subst (λ (z : View T C R). Between G z) y.1 ((λ t h. absurd h), (λ n h g. new (subst (λ (k : ℕ). contains_number ns k ≡ true) (sym (one n h)) g))))
            (λ (y : (j ≢ id) × (get_elem? s.views j ≡ some u)). ((λ t h. absurd h), (λ n h. (r.apart id j v u at y.1 (λ q. y.0 (sym q))).1 n (own n h))))
            (at_set s.views id j L u e));
        kept_by_one = λ n h. let k = r.kept_by_one n h in dite (ℕ_discrete k.0 id)
            (λ same. let mine : contains_number v.numbers n ≡ true = subst (λ (u : View T C R). contains_number u.numbers n ≡ true) (some-injective k.1 v (sym (subst (λ (i : ℕ). get_elem? s.views i ≡ some k.1) same k.2) ∙ at)) k.3 in ⊎_elim
            (λ (e : m ≡ n). (length vs, G, at_last vs G (length vs) refl, has_here m n [] e))
            (λ (o : contains_number ns n ≡ true). (id, L, at_longer vs (G ∷ []) id L (set_at s.views id v L at), o))
            (has_cons m ns n (subst (λ (l : List ℕ). contains_number l n ≡ true) is mine)))
            (λ other. (k.0, k.1, at_longer vs (G ∷ []) k.0 k.1 (set_else s.views id k.0 L other ∙ k.2), k.3));
      }

  pub splits : (id : ℕ) (v : View T C R) → v.stage ≡ Idle → IsNewlyNamed v → 2 ≤ v.parts → Splits Rule id v (kept_part (tail_of v.numbers) v) (given_part (head_of v.numbers) v)
  splits id v idle named two = subst (λ (l : List ℕ). Splits Rule id v (kept_part (tail_of l) v) (given_part (head_of l) v)) (sym named.2) (splits_at id v named.0 named.1 idle named.2 named.3 two)

  pub joins : (id : ℕ) (v : View T C R) (other : ℕ) (w : View T C R) → v.stage ≡ Idle → w.stage ≡ Idle → 0 < v.parts → Joins Rule id v other w (both_views v w) nobody
  joins id v other w idle idle' whole s r at ne there =
      let B : View T C R = both_views v w in let N : View T C R = nobody in let vs : List (View T C R) = set s.views id B in
      let at' : get_elem? s.views other ≡ some w = sym (set_else s.views id other B ne) ∙ there in
      let F = r.each id v at in let G = r.each other w at' in
      let H = seen_longer v.numbers w.numbers v.seen w.seen r.log F.begins.0 G.begins.0 F.begins.1 G.begins.1 F.begins.2 G.begins.2 in
      record {
        tickets = r.tickets;
        serving = r.serving;
        log = r.log;
        words = r.words;
        narrow = r.narrow;
        below = r.below;
        stamped = r.stamped;
        drawn_by_all = let a = tickets_of-set s.views id v B at in let b = tickets_of-set vs other w N there in let c = r.drawn_by_all in omega arith;
        held_by_all = let a = holders_of-set s.views id v B at in let b = holders_of-set vs other w N there in let c = r.held_by_all in let e : tickets_in v.stage ≡ 0 = ap tickets_in idle in let f : tickets_in w.stage ≡ 0 = ap tickets_in idle' in omega arith;
        parts_of_all = let a = parts_of-set s.views id v B at in let b = parts_of-set vs other w N there in let c = r.parts_of_all in omega arith;
        node = ⊎_elim (λ h. inl h) (λ (o : IsOut r.serving s.homes s.views). inr (still_out r.serving other s.homes vs w N there (not_holding w r.serving idle') (still_out r.serving id s.homes s.views v B at (not_holding v r.serving idle) o))) r.node;
        each = λ j u e. ⊎_elim
            (λ (x : (j ≡ other) × (N ≡ u)). subst (ViewFits start r.tickets r.serving r.log) x.1 record { starts = λ z. absurd (omega arith); begins = (r.log, refl, none_of r.log); turn = tt; named = λ n h. absurd (true≢false (sym h)); nothing = λ _. (refl, refl); told = λ d. absurd (true≢false (sym d)); passed = omega arith; theirs = empty_part [] r.log; ours = empty_part [] r.log })
            (λ (x : (j ≢ other) × (get_elem? vs j ≡ some u)). ⊎_elim
            (λ (y : (j ≡ id) × (B ≡ u)). subst (ViewFits start r.tickets r.serving r.log) y.1
            record {
              starts = λ _. F.starts whole;
              begins = (H.0, H.1, none_both v.numbers w.numbers H.0 H.2 H.3);
              turn = tt;
              named = λ n h. ⊎_elim (λ p. F.named n p) (λ q. G.named n q) (has_append v.numbers w.numbers n h);
              nothing = λ z. absurd (omega arith);
              told = λ d. ⊎_elim F.told G.told (or_is v.exhausted w.exhausted d);
              passed = let a = F.passed in let b = G.passed in omega arith;
              theirs = (has_right v.numbers w.numbers, G.begins);
              ours = (has_left v.numbers w.numbers, F.begins);
            })
            (λ (y : (j ≢ id) × (get_elem? s.views j ≡ some u)). r.each j u y.1)
            (at_set s.views id j B u x.1))
            (at_set vs other j N u e);
        apart = subst Apart (sym (set_swap s.views id other B N (λ e. ne (sym e))))
            (apart_set (set s.views other N) id B
            (apart_set s.views other N r.apart ((λ t h. absurd h), (λ n h. absurd (true≢false (sym h))))) (
              (λ t h. absurd h),
              (λ n h j u off e. ⊎_elim
                  (λ (x : (j ≡ other) × (N ≡ u)). λ g. true≢false (sym (subst (λ (z : View T C R). contains_number z.numbers n ≡ true) (sym x.1) g)))
                  (λ (x : (j ≢ other) × (get_elem? s.views j ≡ some u)). λ g. ⊎_elim (λ p. (r.apart id j v u at x.1 (λ q. off (sym q))).1 n p g) (λ p. (r.apart other j w u at' x.1 (λ q. x.0 (sym q))).1 n p g) (has_append v.numbers w.numbers n h))
                  (at_set s.views other j N u e)),
            ));
        kept_by_one = λ n h. let k = r.kept_by_one n h in let here : get_elem? (set vs other N) id ≡ some B = set_else vs other id N (λ e. ne (sym e)) ∙ set_at s.views id v B at in
            dite (ℕ_discrete k.0 id)
            (λ same. (id, B, here, has_left v.numbers w.numbers n (subst (λ (u : View T C R). contains_number u.numbers n ≡ true) (some-injective k.1 v (sym (subst (λ (i : ℕ). get_elem? s.views i ≡ some k.1) same k.2) ∙ at)) k.3)))
            (λ off. dite (ℕ_discrete k.0 other)
            (λ same. (id, B, here, has_right v.numbers w.numbers n (subst (λ (u : View T C R). contains_number u.numbers n ≡ true) (some-injective k.1 w (sym (subst (λ (i : ℕ). get_elem? s.views i ≡ some k.1) same k.2) ∙ at')) k.3)))
            (λ off'. (k.0, k.1, set_else vs other k.0 N off' ∙ (set_else s.views id k.0 B off ∙ k.2), k.3)));
      }

module _ {T C R : Type 0} where
  abbrev Told : View T C R → Type 0
  Told u = (length u.also ≤ length u.seen → HasSeen u.also_of u.also u.seen) × (length u.ours ≤ length u.seen → HasSeen u.ours_of u.ours u.seen)

  pub joined_seen : (v w j a : View T C R) → j ≡ both_views v w → a ≡ j → Told j → HasSeen v.numbers v.seen a.seen × HasSeen w.numbers w.seen a.seen
  joined_seen v w j a is same h = let h' = subst Told is h in
      subst (λ (u : View T C R). HasSeen v.numbers v.seen u.seen × HasSeen w.numbers w.seen u.seen) (sym (same ∙ is)) (h'.1 (longer_left v.seen w.seen), h'.0 (longer_long v.seen w.seen))

  pub joined_own : (v w : View T C R) (m : Me (Option (Node T C R)) (View T C R)) (n : ℕ) → m ≡ (both_views v w, []) → contains_number v.numbers n ≡ true → 0 < v.parts
      → (m.0.stage ≡ Idle) × (m.1 ≡ []) × (contains_number m.0.numbers n ≡ true) × (0 < m.0.parts)
  joined_own v w m n is own some_part = subst (λ (m : Me (Option (Node T C R)) (View T C R)). (m.0.stage ≡ Idle) × (m.1 ≡ []) × (contains_number m.0.numbers n ≡ true) × (0 < m.0.parts)) (sym is)
      (refl, refl, has_left v.numbers w.numbers n own, omega arith)
