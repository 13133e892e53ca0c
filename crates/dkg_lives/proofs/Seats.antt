-- What a setup makes of what the devices give back: the seat that the node takes in the round, and dealings that pass their check.
use Rattle.std.proofs.Common.{◌≡◌, ℕ, ◌==◌, ◌&&◌, ◌<◌, ◌^◌, List, [], ◌∷◌, Option, Some, None, Ok, Err, Bool, true, false, cond, arith, refl, sym, ap, subst, ◌∙◌, filter, nat_lt}
use Rattle.std.specs.Prelude.{not, ◌||◌, Result, if◌then◌else◌}
use Rattle.std.specs.FinMap.{entries as pairs_in, find, get, get-entries}
use Rattle.std.specs.Ordering.{eq_by_cmp, is_eq}
use Rattle.std.specs.declared.cmp.Ordering.{Ordering}
use Rattle.std.specs.declared.cmp.Ordering.TheVariants.{Less, Equal, Greater}
use Rattle.std.proofs.lemmas.Bool.Decides.{nat_tests}
use Rattle.dkg_ceremony.specs.Dealings.{dealing_of}
use Rattle.dkg_ceremony.specs.ValidLogs.{bears_ack_of}
use Rattle.dkg_ceremony.specs.declared.ceremony.DealingError.{DealingError}
use Rattle.dkg_infos.specs.declared.directory.Unit as directory
use Rattle.dkg_infos.specs.declared.info.EpochInfo.{EpochInfo}
use Rattle.dkg_secrets.specs.Keys.{key_cmp}
use Rattle.dkg_secrets.proofs.Map.{exact_keys}
use Rattle.dkg_store.specs.Acts.{Held, notes}
use Rattle.dkg_store.specs.Noted.{logs_in}
use Rattle.dkg_store.specs.Player.{has_orphan}
use Rattle.dkg_store.specs.Recorded.{Pair, at_epoch, bare_logs, first_refused, refused_or}
use Rattle.dkg_core.specs.Agreeing.{AreAgreed}
use Rattle.dkg_core.specs.Fixed.{has}
use Rattle.dkg_core.specs.Forms.{IsSeated}
use Rattle.dkg_core.specs.Heard.{recovered_in}
use Rattle.dkg_core.specs.Live.{Live, Plays, Watches, records_of_epoch}
use Rattle.dkg_core.specs.Logs.{logs_of}
use Rattle.dkg_core.specs.Setup.{Standing, is_lost}
use Rattle.dkg_lives.specs.Given.{Lived, at_step}

some_is : {A : Type 0} {x y : A} → ◌≡◌ {A = Option A} (Some x) (Some y) → x ≡ y
some_is e = cc

not_there : {A : Type 0} (x : A) → ◌≡◌ {A = Option A} None (Some x) → ⊥
not_there x e = cc

-- WHAT PASSED THE CHECK, of an epoch

equal : (r : Ordering) → is_eq r ≡ true → r ≡ Equal
equal Less e = absurd (let h : false ≡ true = e in cc)
equal Equal e = refl
equal Greater e = absurd (let h : false ≡ true = e in cc)

module _ (check : ℕ → List ℕ → ℕ → Result (Unit {0}) DealingError) (epoch : ℕ) where
  passes_first : (r : Result (Unit {0}) DealingError) (dealer : ℕ) (later : Option ℕ) → refused_or r dealer later ≡ None → (r ≡ Ok tt) × (later ≡ None)
  passes_first (Ok u) dealer later none = (refl, none)
  passes_first (Err e) dealer later none = absurd (let h : ◌≡◌ {A = Option ℕ} (Some dealer) None = none in cc)

  abbrev is_here : Pair → Bool
  is_here p = (p.0.0 == epoch) && nat_lt p.0.1 (2 ^ 32)

  passes_rest : (x : Pair) (es : List Pair) (b : Bool) → first_refused check (cond b (x ∷ filter is_here es) (filter is_here es)) ≡ None → first_refused check (filter is_here es) ≡ None
  passes_rest x es true none = (passes_first (check x.0.1 x.1.0 x.1.1) x.0.1 (first_refused check (filter is_here es)) none).1
  passes_rest x es false none = none

  passes_here : (x : Pair) (es : List Pair) (b : Bool) → b ≡ true → first_refused check (cond b (x ∷ filter is_here es) (filter is_here es)) ≡ None → check x.0.1 x.1.0 x.1.1 ≡ Ok tt
  passes_here x es true is none = (passes_first (check x.0.1 x.1.0 x.1.1) x.0.1 (first_refused check (filter is_here es)) none).0
  passes_here x es false is none = absurd (let h : false ≡ true = is in cc)

  here_is : (dealer : ℕ) (x : Pair) → dealer < 2 ^ 32 → ◌≡◌ {A = ℕ × ℕ} (epoch, dealer) x.0 → is_here x ≡ true
  here_is dealer x small is =
      let e : x.0.0 ≡ epoch = ap (λ (k : ℕ × ℕ). k.0) (sym is) in
      let d : x.0.1 ≡ dealer = ap (λ (k : ℕ × ℕ). k.1) (sym is) in
      grind (arith, nat_tests)

  pub passes_in : (dealer : ℕ) (v : List ℕ × ℕ) (es : List Pair) → dealer < 2 ^ 32 → find key_cmp (epoch, dealer) es ≡ Some v → first_refused check (filter (λ p. (p.0.0 == epoch) && nat_lt p.0.1 (2 ^ 32)) es) ≡ None
      → check dealer v.0 v.1 ≡ Ok tt
  passes_in dealer v [] small found none = absurd (not_there v found)
  passes_in dealer v (x ∷ es) small found none = by_key (passes_in dealer v es small) (eq_by_cmp key_cmp (epoch, dealer) x.0) refl found
    where
      by_key : (find key_cmp (epoch, dealer) es ≡ Some v → first_refused check (filter is_here es) ≡ None → check dealer v.0 v.1 ≡ Ok tt)
          → (b : Bool) → eq_by_cmp key_cmp (epoch, dealer) x.0 ≡ b → cond b (Some x.1) (find key_cmp (epoch, dealer) es) ≡ Some v → check dealer v.0 v.1 ≡ Ok tt
      by_key later true is found =
          let k : ◌≡◌ {A = ℕ × ℕ} (epoch, dealer) x.0 = exact_keys (epoch, dealer) x.0 (equal (key_cmp (epoch, dealer) x.0) is) in
          let d : x.0.1 ≡ dealer = ap (λ (q : ℕ × ℕ). q.1) (sym k) in
          let here : check x.0.1 x.1.0 x.1.1 ≡ Ok tt = passes_here x es (is_here x) (here_is dealer x small k) none in
          subst (λ (w : List ℕ × ℕ). check dealer w.0 w.1 ≡ Ok tt) (some_is found) (subst (λ (q : ℕ). check q x.1.0 x.1.1 ≡ Ok tt) d here)
      by_key later false is found = later found (passes_rest x es (is_here x) none)

-- BEHIND A SETUP, of a life whose records are what the devices hold

module _ (g : Lived) (taken : ℕ) (standing : Standing) (info : EpochInfo directory.Unit) (share : Option ℕ) (seed : List ℕ) (st end : Live directory.Unit) (seated : IsSeated (at_step g taken) standing info share seed st end)
    (now : Held) (agreed : AreAgreed end.records now) where
  -- it plays where it is one of the players, and lacks no dealing that it acknowledged
  pub plays_so : has (seated.round).players g.script.config.me ≡ true
      → has_orphan (λ dealer log. bears_ack_of seated.round dealer log g.script.config.me) (at_epoch (seated.round).number (recovered_in now)) (bare_logs (at_epoch (seated.round).number (logs_in (notes now)))) ≡ false
      → end.participation.seat ≡ Plays
  unfolding at_step
  plays_so key none =
      let found : is_lost (at_step g taken) seated.round (records_of_epoch (seated.round).number (pairs_in (recovered_in now))) (bare_logs (records_of_epoch (seated.round).number (pairs_in (logs_in (notes now))))) ≡ false = none in
      let lost : is_lost (at_step g taken) seated.round (records_of_epoch (seated.round).number end.records.dealings) (logs_of end (seated.round).number) ≡ false = rw (agreed.dealings, agreed.logs) found in
      seated.seat ∙ sits (has (seated.round).players g.script.config.me) (is_lost (at_step g taken) seated.round (records_of_epoch (seated.round).number end.records.dealings) (logs_of end (seated.round).number)) key lost
    where
      sits : (key lost : Bool) → key ≡ true → lost ≡ false → (if not key || lost then Watches else Plays) ≡ Plays
      sits key lost a b = rw (a, b) refl

  -- what the devices give back of its epoch passes the check
  pub valid_so : end.participation.seat ≡ Plays → (dealer : ℕ) (pair : List ℕ × ℕ) → dealer < 2 ^ 32 → get (recovered_in now) ((seated.round).number, dealer) ≡ Some pair
      → dealing_of seated.round g.script.config.me dealer pair.0 pair.1 ≡ Ok tt
  unfolding at_step
  valid_so plays dealer pair low there =
      let refused : first_refused (dealing_of seated.round g.script.config.me) (filter (λ p. (p.0.0 == (seated.round).number) && nat_lt p.0.1 (2 ^ 32)) end.records.dealings) ≡ None = seated.passes plays in
      let none : first_refused (dealing_of seated.round g.script.config.me) (filter (λ p. (p.0.0 == (seated.round).number) && nat_lt p.0.1 (2 ^ 32)) (pairs_in (recovered_in now))) ≡ None
      = subst (λ (ps : List Pair). first_refused (dealing_of seated.round g.script.config.me) (filter (λ p. (p.0.0 == (seated.round).number) && nat_lt p.0.1 (2 ^ 32)) ps) ≡ None) agreed.dealings refused in
      passes_in (dealing_of seated.round g.script.config.me) (seated.round).number dealer pair (pairs_in (recovered_in now)) low (sym (get-entries (recovered_in now) ((seated.round).number, dealer)) ∙ there) none
