-- What a course stores of shares and tells: each share that is held behind it was held before, or is told, or is the one that it was about to tell; and what was held, or told, is held.
use Rattle.std.proofs.Common.{◌≡◌, ◌⊎◌, inl, inr, true, false, ◌<◌, ◌≤◌, ℕ, List, [], ◌∷◌, ◌++◌, Option, Some, None, arith, refl, sym, ◌∙◌, ap, subst, append-nil, append_assoc}
use Rattle.std.specs.Prelude.{Contains, IsSome}
use Rattle.std.specs.FinMap as maps
use Rattle.std.specs.FinMap.{FinMap, get, nat_cmp-IsAntisymmetric}
use Rattle.std.specs.Cmp.{nat_cmp_total}
use Rattle.std.specs.Ordering.{nat_cmp}
use Rattle.std.proofs.lemmas.List.Elements.{Contains-append_left, Contains-push, Contains-push_cases}
use Rattle.std.proofs.lemmas.List.Sums.{fold-append}
use Rattle.dkg_secrets.proofs.Map.{get_here, get_other, same_key}
use Rattle.dkg_secrets.proofs.Tried.{all_done}
use Rattle.dkg_secrets.specs.Keys.{StaysOrGoes}
use Rattle.dkg_secrets.specs.Secrets as of_secrets
use Rattle.dkg_secrets.specs.Secrets.{Secrets, Tries}
use Rattle.dkg_secrets.specs.declared.secrets.SecretOp.{SecretOp}
use Rattle.dkg_secrets.specs.declared.secrets.SecretOp.TheVariants.{Prune, PutDealing, PutSeed, PutShare}
use Rattle.dkg_infos.specs.declared.entry.Entry.{Entry}
use Rattle.dkg_infos.specs.declared.entry.Entry.TheVariants.{Committed, Opened, Setup}
use Rattle.dkg_infos.specs.declared.entry.Part.{Part}
use Rattle.dkg_store.specs.Acts.{Cause, Changes, Ended, OnDisk, Operation, Tears, World, broken, does, says, stopped, went}
use Rattle.dkg_core.specs.Courses.{Ask, CallOutside, Course, Do, EndsSo, Goes, Say, Stops}
use Rattle.dkg_promises.proofs.SetUps.{IsQuiet, LeadsTo, MayDo, MaySay, Telling, after_line, after_op, last_line, plain_keeps, plain_said, set_up_last, spares_keeps, spares_may}

none_some : {A : Type 0} {x : A} → ◌≡◌ {A = Option A} None (Some x) → ⊥
none_some e = cc

some_is : {A : Type 0} {x y : A} → ◌≡◌ {A = Option A} (Some x) (Some y) → x ≡ y
some_is e = cc

is_there : {A : Type 0} {o : Option A} (x : A) → o ≡ Some x → IsSome o
is_there x e = subst IsSome (sym e) refl

gone : {A : Type 0} {o : Option A} → o ≡ None → IsSome o → ⊥
gone e some = let wrong : false ≡ true = subst IsSome e some in cc

-- a share of the epoch is told
abbrev pub TellsShare : List Entry → (epoch : ℕ) → Type 0
TellsShare lines epoch = (share : ℕ) × Contains lines (Committed epoch (Some share))

abbrev Shares : Type 0
Shares = FinMap nat_cmp ℕ

-- the same of a list with one line more
tells_more : (lines : List Entry) (line : Entry) (epoch : ℕ) → TellsShare lines epoch → TellsShare (lines ++ line ∷ []) epoch
tells_more lines line epoch its = (its.0, Contains-append_left lines (line ∷ []) (Committed epoch (Some its.0)) its.1)

tells_this : (lines : List Entry) (epoch share : ℕ) → TellsShare (lines ++ Committed epoch (Some share) ∷ []) epoch
tells_this lines epoch share = (share, Contains-push lines (Committed epoch (Some share)))

-- which setup is the last where an epoch is committed
module _ (At : Option (ℕ × Part) → Type 0) where
  abbrev pub AtLine : Option (ℕ × Part) → Entry → Type 0
  AtLine last (Committed epoch share) = At last
  AtLine last line = Unit {0}

  abbrev pub AtCommits : Option (ℕ × Part) → List Entry → Type 0
  AtCommits last [] = Unit {0}
  AtCommits last (line ∷ lines) = AtLine last line × AtCommits (last_line last line) lines

  at_more : (last : Option (ℕ × Part)) (lines : List Entry) (line : Entry) → AtCommits last lines → AtLine (set_up_last last lines) line → AtCommits last (lines ++ line ∷ [])
  at_more last [] line all its = (its, tt)
  at_more last (one ∷ lines) line all its = (all.0, at_more (last_line last one) lines line all.1 its)

module _ (Into : ℕ → Type 0) (most : ℕ) (At : Option (ℕ × Part) → Type 0) (w0 : World) (x0 : Telling) where
  pub record Stores (w : World) (x : Telling) : Type 0 where
    pub added : List Entry
    pub out : w.out ≡ w0.out ++ added
    pub last : x.last ≡ set_up_last x0.last added
    pub commits : AtCommits At x0.last added
    pub sound : (epoch : ℕ) → IsSome (get w.held.secrets.shares epoch) → IsSome (get w0.held.secrets.shares epoch) ⊎ (TellsShare added epoch ⊎ (x.untold ≡ Some epoch))
    pub kept : (epoch : ℕ) → most ≤ epoch → IsSome (get w0.held.secrets.shares epoch) ⊎ TellsShare added epoch → IsSome (get w.held.secrets.shares epoch)
    pub put : (epoch : ℕ) → x.untold ≡ Some epoch → IsSome (get w.held.secrets.shares epoch)
    pub into : (epoch : ℕ) → x.untold ≡ Some epoch → Into epoch

  -- A LINE
  said_stores : (w : World) (x : Telling) (line : Entry) → MaySay Into At x line → Stores w x → Stores (says w line) (after_line x line)
  said_stores w x line may its = by_line line may
    where
      out_is : (line : Entry) → (says w line).out ≡ w0.out ++ (its.added ++ line ∷ [])
      out_is line = ap (λ (ls : List Entry). ls ++ line ∷ []) its.out ∙ append_assoc w0.out its.added (line ∷ [])

      last_is : (line : Entry) → (after_line x line).last ≡ last_line x.last line → (after_line x line).last ≡ set_up_last x0.last (its.added ++ line ∷ [])
      last_is line same = same ∙ ap (λ (o : _). last_line o line) its.last ∙ sym (fold-append last_line x0.last its.added (line ∷ []))

      -- a line that commits no share
      other : (line : Entry) → AtLine At x.last line → ((epoch share : ℕ) → line ≡ Committed epoch (Some share) → ⊥) → (after_line x line).last ≡ last_line x.last line → (after_line x line).untold ≡ x.untold → Stores (says w line) (after_line x line)
      other line at none last_same untold_same = record {
        added = its.added ++ line ∷ [];
        out = out_is line;
        last = last_is line last_same;
        commits = at_more At x0.last its.added line its.commits (subst (λ (o : Option (ℕ × Part)). AtLine At o line) its.last at);
        sound = λ epoch some. elim (its.sound epoch some) [
          | inl was ↦ inl was
          | inr (inl tells) ↦ inr (inl (tells_more its.added line epoch tells))
          | inr (inr untold) ↦ inr (inr (untold_same ∙ untold))
        ];
        kept = λ epoch high from. its.kept epoch high (elim from [
          | inl was ↦ inl was
          | inr tells ↦ inr (told_before epoch tells)
        ]);
        put = λ epoch untold. its.put epoch (sym untold_same ∙ untold);
        into = λ epoch untold. its.into epoch (sym untold_same ∙ untold);
      }
        where
          told_before : (epoch : ℕ) → TellsShare (its.added ++ line ∷ []) epoch → TellsShare its.added epoch
          told_before epoch tells = elim (Contains-push_cases its.added line (Committed epoch (Some tells.0)) tells.1) [
            | inl before ↦ (tells.0, before)
            | inr here ↦ absurd (none epoch tells.0 here)
          ]

      -- one that commits the share that was stored
      committed : (epoch share : ℕ) → x.untold ≡ Some epoch → At x.last → Stores (says w (Committed epoch (Some share))) (after_line x (Committed epoch (Some share)))
      committed epoch share untold at = record {
        added = its.added ++ Committed epoch (Some share) ∷ [];
        out = out_is (Committed epoch (Some share));
        last = last_is (Committed epoch (Some share)) refl;
        commits = at_more At x0.last its.added (Committed epoch (Some share)) its.commits (subst At its.last at);
        sound = λ other some. elim (its.sound other some) [
          | inl was ↦ inl was
          | inr (inl tells) ↦ inr (inl (tells_more its.added (Committed epoch (Some share)) other tells))
          | inr (inr here) ↦ inr (inl (subst (TellsShare (its.added ++ Committed epoch (Some share) ∷ [])) (some_is (sym untold ∙ here)) (tells_this its.added epoch share)))
        ];
        kept = λ other high from. elim from [
          | inl was ↦ its.kept other high (inl was)
          | inr tells ↦ told_kept other high tells
        ];
        put = λ other none. absurd (none_some none);
        into = λ other none. absurd (none_some none);
      }
        where
          number : (other its_share : ℕ) → Committed epoch (Some share) ≡ Committed other (Some its_share) → epoch ≡ other
          number other its_share e = cc

          told_kept : (other : ℕ) → most ≤ other → TellsShare (its.added ++ Committed epoch (Some share) ∷ []) other → IsSome (get w.held.secrets.shares other)
          told_kept other high tells = elim (Contains-push_cases its.added (Committed epoch (Some share)) (Committed other (Some tells.0)) tells.1) [
            | inl before ↦ its.kept other high (inr (tells.0, before))
            | inr here ↦ its.put other (untold ∙ ap (λ (e : ℕ). Some e) (number other tells.0 here))
          ]

      by_line : (line : Entry) → MaySay Into At x line → Stores (says w line) (after_line x line)
      by_line (Committed epoch (Some share)) its_may = committed epoch share its_may.0 its_may.1.0
      by_line (Committed epoch None) its_may = other (Committed epoch None) its_may.0 (λ n share e. (let wrong : Committed epoch None ≡ Committed n (Some share) = e in cc)) refl refl
      by_line (Setup epoch phase part) u = other (Setup epoch phase part) tt (λ n share e. cc) refl refl
      by_line (Opened life restored) u = other (Opened life restored) tt (λ n share e. cc) refl refl
      by_line one u = other one tt (λ n share e. cc) refl refl

  -- AN OPERATION that leaves the shares
  same_stores : (w new : World) (x : Telling) → new.out ≡ w.out → new.held.secrets.shares ≡ w.held.secrets.shares → Stores w x → Stores new x
  same_stores w new x same shares its = record {
    added = its.added;
    out = same ∙ its.out;
    last = its.last;
    commits = its.commits;
    sound = λ epoch some. its.sound epoch (subst (λ (m : Shares). IsSome (get m epoch)) shares some);
    kept = λ epoch high from. subst (λ (m : Shares). IsSome (get m epoch)) (sym shares) (its.kept epoch high from);
    put = λ epoch untold. subst (λ (m : Shares). IsSome (get m epoch)) (sym shares) (its.put epoch untold);
    into = its.into;
  }

  -- one that puts a share
  put_stores : (w new : World) (x : Telling) (at share : ℕ) → x.untold ≡ None → Into at → new.out ≡ w.out → new.held.secrets.shares ≡ maps.insert w.held.secrets.shares at share → Stores w x → Stores new (record { last = x.last; untold = Some at })
  put_stores w new x at share none into same shares its = record {
    added = its.added;
    out = same ∙ its.out;
    last = its.last;
    commits = its.commits;
    sound = λ epoch some. elim (same_key nat_cmp_total nat_cmp-IsAntisymmetric epoch at) [
      | inl here ↦ inr (inr (ap (λ (e : ℕ). Some e) (sym here)))
      | inr apart ↦ elim (its.sound epoch (subst IsSome (ap (λ (m : Shares). get m epoch) shares ∙ get_other nat_cmp_total nat_cmp-IsAntisymmetric w.held.secrets.shares at epoch share apart) some)) [
        | inl was ↦ inl was
        | inr (inl tells) ↦ inr (inl tells)
        | inr (inr untold) ↦ absurd (none_some (sym none ∙ untold))
      ]
    ];
    kept = λ epoch high from. still epoch (its.kept epoch high from);
    put = λ epoch here. subst (λ (e : ℕ). IsSome (get new.held.secrets.shares e)) (some_is here) there;
    into = λ epoch here. subst Into (some_is here) into;
  }
    where
      there : IsSome (get new.held.secrets.shares at)
      there = is_there share (ap (λ (m : Shares). get m at) shares ∙ get_here nat_cmp_total nat_cmp-IsAntisymmetric w.held.secrets.shares at share)

      still : (epoch : ℕ) → IsSome (get w.held.secrets.shares epoch) → IsSome (get new.held.secrets.shares epoch)
      still epoch some = elim (same_key nat_cmp_total nat_cmp-IsAntisymmetric epoch at) [
        | inl here ↦ subst (λ (e : ℕ). IsSome (get new.held.secrets.shares e)) (sym here) there
        | inr apart ↦ subst IsSome (sym (ap (λ (m : Shares). get m epoch) shares ∙ get_other nat_cmp_total nat_cmp-IsAntisymmetric w.held.secrets.shares at epoch share apart)) some
      ]

  -- .. and one that prunes
  pruned_stores : (w new : World) (x : Telling) (min : ℕ) → x.untold ≡ None → min ≤ most → new.out ≡ w.out → ((epoch : ℕ) → StaysOrGoes min epoch (get w.held.secrets.shares epoch) (get new.held.secrets.shares epoch)) → Stores w x → Stores new x
  pruned_stores w new x min none low same each its = record {
    added = its.added;
    out = same ∙ its.out;
    last = its.last;
    commits = its.commits;
    sound = λ epoch some. elim (each epoch) [
      | inl stays ↦ its.sound epoch (subst IsSome stays some)
      | inr goes ↦ absurd (gone goes.1 some)
    ];
    kept = λ epoch high from. elim (each epoch) [
      | inl stays ↦ subst IsSome (sym stays) (its.kept epoch high from)
      | inr goes ↦ absurd (let under : epoch < min = goes.0 in omega (arith, under, low, high))
    ];
    put = λ epoch untold. absurd (none_some (sym none ∙ untold));
    into = its.into;
  }

  -- what an operation on the secrets leaves, done or not
  tried_stores : (w new : World) (x : Telling) (op : SecretOp) → MayDo Into most At x (Changes op) → new.out ≡ w.out → Tries op w.held.secrets new.held.secrets → Stores w x → (y : Telling) × Stores new y
  tried_stores w new x (PutShare epoch share) may same tries its = elim tries.so [
    | inl stays ↦ (x, same_stores w new x same (ap (λ (t : Secrets). t.shares) stays) its)
    | inr done ↦ (record { last = x.last; untold = Some epoch }, put_stores w new x epoch share may.0 may.1 same (ap (λ (t : Secrets). t.shares) done) its)
  ]
  tried_stores w new x (PutSeed epoch seed) may same tries its = elim tries.so [
    | inl stays ↦ (x, same_stores w new x same (ap (λ (t : Secrets). t.shares) stays) its)
    | inr done ↦ (x, same_stores w new x same (ap (λ (t : Secrets). t.shares) done) its)
  ]
  tried_stores w new x (PutDealing epoch dealer private) may same tries its = elim tries.so [
    | inl stays ↦ (x, same_stores w new x same (ap (λ (t : Secrets). t.shares) stays) its)
    | inr done ↦ (x, same_stores w new x same (ap (λ (t : Secrets). t.shares) done) its)
  ]
  tried_stores w new x (Prune min) may same tries its = (x, pruned_stores w new x min may.0 may.1 same tries.so.shares its)

  -- .. and any that is done
  does_stores : (w : World) (x : Telling) (op : Operation) → MayDo Into most At x op → Stores w x → Stores (does w op) (after_op x op)
  does_stores w x (OnDisk op) may its = same_stores w (does w (OnDisk op)) x refl refl its
  does_stores w x (Changes (PutShare epoch share)) may its = put_stores w (does w (Changes (PutShare epoch share))) x epoch share may.0 may.1 refl refl its
  does_stores w x (Changes (PutSeed epoch seed)) may its = same_stores w (does w (Changes (PutSeed epoch seed))) x refl refl its
  does_stores w x (Changes (PutDealing epoch dealer private)) may its = same_stores w (does w (Changes (PutDealing epoch dealer private))) x refl refl its
  does_stores w x (Changes (Prune min)) may its =
      pruned_stores w (does w (Changes (Prune min))) x min may.0 may.1 refl (all_done (Prune min) w.held.secrets (of_secrets.after (Prune min) w.held.secrets) refl).so.shares its

  torn_stores : (cause : Cause) (w new : World) (x : Telling) (op : Operation) → MayDo Into most At x op → Tears cause op w new → Stores w x → (y : Telling) × Stores new y
  torn_stores cause w new x (OnDisk op) may tears its = (x, same_stores w new x tears.same (ap (λ (t : Secrets). t.shares) tears.torn.0) its)
  torn_stores cause w new x (Changes op) may tears its = tried_stores w new x op may tears.same tears.torn.1 its

  -- A RUN, wherever it ends
  abbrev pub Leaves : {F S : Type 0} → (goes : Telling → S → Type 0) → Ended F S → World → Type 0
  Leaves goes (went end) new = (y : Telling) × Stores new y × goes y end
  Leaves goes (stopped fault) new = (y : Telling) × Stores new y
  Leaves goes (broken cause) new = (y : Telling) × Stores new y

  module _ {Dir F S : Type 0} (goes : Telling → S → Type 0) where
    pub run_stores : (course : Course Dir F S) (ended : Ended F S) (w new : World) (x : Telling) → LeadsTo Into most At goes x course → Stores w x → EndsSo course ended w new → Leaves goes ended new
    run_stores (Say line course) (went end) w new x leads its run = run_stores course (went end) (says w line) new (after_line x line) leads.1 (said_stores w x line leads.0 its) run
    run_stores (Say line course) (stopped fault) w new x leads its run = run_stores course (stopped fault) (says w line) new (after_line x line) leads.1 (said_stores w x line leads.0 its) run
    run_stores (Say line course) (broken cause) w new x leads its (inl here) = (x, subst (λ (v : World). Stores v x) (sym here.1) its)
    run_stores (Say line course) (broken cause) w new x leads its (inr run) = run_stores course (broken cause) (says w line) new (after_line x line) leads.1 (said_stores w x line leads.0 its) run
    run_stores (Do op course) (went end) w new x leads its run = run_stores course (went end) (does w op) new (after_op x op) leads.1 (does_stores w x op leads.0 its) run
    run_stores (Do op course) (stopped fault) w new x leads its run = run_stores course (stopped fault) (does w op) new (after_op x op) leads.1 (does_stores w x op leads.0 its) run
    run_stores (Do op course) (broken cause) w new x leads its (inl torn) = torn_stores cause w new x op leads.0 torn its
    run_stores (Do op course) (broken cause) w new x leads its (inr run) = run_stores course (broken cause) (does w op) new (after_op x op) leads.1 (does_stores w x op leads.0 its) run
    run_stores (CallOutside outer course) (went end) w new x leads its run = run_stores course (went end) w new x leads its run
    run_stores (CallOutside outer course) (stopped fault) w new x leads its run = run_stores course (stopped fault) w new x leads its run
    run_stores (CallOutside outer course) (broken cause) w new x leads its run = run_stores course (broken cause) w new x leads its run
    run_stores (Ask f) (went end) w new x leads its run = run_stores (f w.held) (went end) w new x (leads w.held) its run
    run_stores (Ask f) (stopped fault) w new x leads its run = run_stores (f w.held) (stopped fault) w new x (leads w.held) its run
    run_stores (Ask f) (broken cause) w new x leads its run = run_stores (f w.held) (broken cause) w new x (leads w.held) its run
    run_stores (Goes end) (went other) w new x leads its run = (x, subst (λ (v : World). Stores v x) (sym run.0) its, subst (goes x) (sym run.1) leads)
    run_stores (Goes end) (stopped fault) w new x leads its run = absurd run
    run_stores (Goes end) (broken cause) w new x leads its run = (x, subst (λ (v : World). Stores v x) (sym run.1) its)
    run_stores (Stops fault) (went end) w new x leads its run = absurd run
    run_stores (Stops fault) (stopped other) w new x leads its run = (x, subst (λ (v : World). Stores v x) (sym run.0) its)
    run_stores (Stops fault) (broken cause) w new x leads its run = (x, subst (λ (v : World). Stores v x) (sym run.1) its)

-- a course that leaves all of it
pub quiet_to : {Dir F S : Type 0} (Into : ℕ → Type 0) (most : ℕ) (At : Option (ℕ × Part) → Type 0) (x : Telling) (course : Course Dir F S) → IsQuiet course → LeadsTo Into most At (λ y end. y ≡ x) x course
quiet_to {Dir} {F} {S} Into most At x course so = by_course course x refl so
  where
    by_course : (course : Course Dir F S) (y : Telling) → y ≡ x → IsQuiet course → LeadsTo Into most At (λ z end. z ≡ x) y course
    by_course (Say line course) y same so = (plain_said Into At y line so.0, by_course course (after_line y line) (plain_keeps y line so.0 ∙ same) so.1)
    by_course (Do op course) y same so = (spares_may Into most At y op so.0, by_course course (after_op y op) (spares_keeps y op so.0 ∙ same) so.1)
    by_course (CallOutside outer course) y same so = by_course course y same so
    by_course (Ask f) y same so = λ h. by_course (f h) y same (so h)
    by_course (Goes end) y same so = same
    by_course (Stops fault) y same so = tt

-- it begins with nothing told
pub begins_so : (Into : ℕ → Type 0) (most : ℕ) (At : Option (ℕ × Part) → Type 0) (w : World) (x : Telling) → x.untold ≡ None → Stores Into most At w x w x
begins_so Into most At w x none = record {
  added = [];
  out = sym (append-nil w.out);
  last = refl;
  commits = tt;
  sound = λ epoch some. inl some;
  kept = λ epoch high from. elim from [
    | inl was ↦ was
    | inr tells ↦ absurd (nothing epoch tells)
  ];
  put = λ epoch untold. absurd (none_some (sym none ∙ untold));
  into = λ epoch untold. absurd (none_some (sym none ∙ untold));
}
  where
    nothing : (epoch : ℕ) → TellsShare [] epoch → ⊥
    nothing epoch tells = let low : tells.1.0 < 0 = tells.1.1 in omega (arith, low)
