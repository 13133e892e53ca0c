-- How acts follow each other, and what holds along them.
use Rattle.std.proofs.Common.{◌≡◌, ◌≤◌, inl, inr, List, [], ◌∷◌, ◌++◌, length, refl, sym, ◌∙◌, ap, subst, arith}
use Rattle.std.proofs.lemmas.List.{length-append}
use Rattle.dkg_journal.specs.Burn.{Burn}
use Rattle.dkg_journal.specs.Fuse.{spent_once, burned, burnt}
use Rattle.dkg_journal.specs.Fuse.{Reached}
use Rattle.dkg_journal.specs.Names.{Files}
use Rattle.dkg_journal.specs.Operations.{Journaled, journaled}
use Rattle.dkg_infos.specs.declared.entry.Entry.{Entry}
use Rattle.dkg_store.specs.Acts.{Acts, Say, Do, Ask, Goes, Stops, bind, World, says, does, IsTorn, Completes, Faults, Breaks, Cause, by_cut, by_disk, by_secrets, by_want, EndsBy, IsBetween, Ended, went, stopped, broken, Runs, IfWent, Stands, Moment, moment, world, held_in, at, MadeAt, RunsRest, Along, Operation, OnDisk, Changes, Held}
use Rattle.dkg_secrets.specs.Secrets.{Secrets}
use Rattle.dkg_secrets.proofs.Tried.{nothing_done}

-- ONE AFTER ANOTHER

module _ {F S T : Type 0} (next : S → Acts F T) where
  completes_next : (acts : Acts F S) (w mid new : World) (end : S) (last : T) → Completes acts end w mid → Completes (next end) last mid new → Completes (bind acts next) last w new
  completes_next (Say line acts) w mid new end last a b = completes_next acts (says w line) mid new end last a b
  completes_next (Do op acts) w mid new end last a b = completes_next acts (does w op) mid new end last a b
  completes_next (Ask f) w mid new end last a b = completes_next (f w.held) w mid new end last a b
  completes_next (Goes its) w mid new end last a b = subst (λ (x : World). Completes (next its) last x new) a.0 (subst (λ (s : S). Completes (next s) last mid new) a.1 b)
  completes_next (Stops fault) w mid new end last a b = absurd a

  faults_next : (acts : Acts F S) (w mid new : World) (end : S) (fault : F) → Completes acts end w mid → Faults (next end) fault mid new → Faults (bind acts next) fault w new
  faults_next (Say line acts) w mid new end fault a b = faults_next acts (says w line) mid new end fault a b
  faults_next (Do op acts) w mid new end fault a b = faults_next acts (does w op) mid new end fault a b
  faults_next (Ask f) w mid new end fault a b = faults_next (f w.held) w mid new end fault a b
  faults_next (Goes its) w mid new end fault a b = subst (λ (x : World). Faults (next its) fault x new) a.0 (subst (λ (s : S). Faults (next s) fault mid new) a.1 b)
  faults_next (Stops its) w mid new end fault a b = absurd a

  breaks_next : (cause : Cause) (acts : Acts F S) (w mid new : World) (end : S) → Completes acts end w mid → Breaks cause (next end) mid new → Breaks cause (bind acts next) w new
  breaks_next cause (Say line acts) w mid new end a b = inr (breaks_next cause acts (says w line) mid new end a b)
  breaks_next cause (Do op acts) w mid new end a b = inr (breaks_next cause acts (does w op) mid new end a b)
  breaks_next cause (Ask f) w mid new end a b = breaks_next cause (f w.held) w mid new end a b
  breaks_next cause (Goes its) w mid new end a b = subst (λ (x : World). Breaks cause (next its) x new) a.0 (subst (λ (s : S). Breaks cause (next s) mid new) a.1 b)
  breaks_next cause (Stops fault) w mid new end a b = absurd a

  faults_first : (acts : Acts F S) (w new : World) (fault : F) → Faults acts fault w new → Faults (bind acts next) fault w new
  faults_first (Say line acts) w new fault a = faults_first acts (says w line) new fault a
  faults_first (Do op acts) w new fault a = faults_first acts (does w op) new fault a
  faults_first (Ask f) w new fault a = faults_first (f w.held) w new fault a
  faults_first (Goes end) w new fault a = absurd a
  faults_first (Stops its) w new fault a = a

  runs_next : (acts : Acts F S) (ended : Ended F T) (w mid new : World) (end : S) → Completes acts end w mid → Runs (next end) ended mid new → Runs (bind acts next) ended w new
  runs_next acts (went last) w mid new end a b = completes_next acts w mid new end last a b
  runs_next acts (stopped fault) w mid new end a b = faults_next acts w mid new end fault a b
  runs_next acts (broken cause) w mid new end a b = breaks_next cause acts w mid new end a b

untorn : (op : Operation) (h : Held) → IsTorn op h h
untorn (OnDisk op) h = (refl, inl refl)
untorn (Changes op) h = (refl, nothing_done op h.secrets h.secrets refl)

unreached : (f : Burn) → Reached f f → ⊥
unreached f is = absurd (let low = is.not_yet in let high = is.by_now in omega (arith, low, high))

-- an end between two operations is one at the front of the next
ends_here : (cause : Cause) → IsBetween cause → (f : Burn) → EndsBy cause f f
ends_here by_cut is f = absurd is
ends_here by_disk is f = unreached f
ends_here by_secrets is f = unreached f
ends_here by_want is f = tt

-- nothing was run
pub breaks_none : {F S : Type 0} (cause : Cause) → IsBetween cause → (acts : Acts F S) (w : World) → Breaks cause acts w w
breaks_none cause is (Say line acts) w = inl (is, refl)
breaks_none cause is (Do op acts) w = inl (record { same = refl; torn = untorn op w.held; calls = 0; most = omega arith; fuse = refl; ends = ends_here cause is w.fuse })
breaks_none cause is (Ask f) w = breaks_none cause is (f w.held) w
breaks_none cause is (Goes end) w = (is, refl)
breaks_none cause is (Stops fault) w = (is, refl)

module _ {F S T : Type 0} (next : S → Acts F T) (cause : Cause) where
  breaks_first : (acts : Acts F S) (w new : World) → Breaks cause acts w new → Breaks cause (bind acts next) w new
  breaks_first (Say line acts) w new (inl none) = inl none
  breaks_first (Say line acts) w new (inr more) = inr (breaks_first acts (says w line) new more)
  breaks_first (Do op acts) w new (inl torn) = inl torn
  breaks_first (Do op acts) w new (inr more) = inr (breaks_first acts (does w op) new more)
  breaks_first (Ask f) w new b = breaks_first (f w.held) w new b
  breaks_first (Goes end) w new none = subst (λ (x : World). Breaks cause (next end) w x) (sym none.1) (breaks_none cause none.0 (next end) w)
  breaks_first (Stops fault) w new none = none

module _ {F S T : Type 0} {acts : Acts F S} {files : Files} {image : Files → Type 0} {old : Moment} (next : S → Acts F T) where
  -- the first acts were broken off
  pub made_broken : {files_now : Files} {now : Files → Type 0} {new : Moment} → {cause : Cause} → MadeAt acts (broken cause) files image files_now now old new → MadeAt (bind acts next) (broken cause) files image files_now now old new
  made_broken {new = new} {cause = cause} first = record {
    made = λ stands c here. breaks_first next cause acts (at old files) (at new c) (first.made stands c here);
    stands = tt;
  }

  -- .. or stopped
  pub made_stopped : {files_now : Files} {now : Files → Type 0} {new : Moment} {fault : F} → MadeAt acts (stopped fault) files image files_now now old new → MadeAt (bind acts next) (stopped fault) files image files_now now old new
  made_stopped {new = new} {fault = fault} first = record {
    made = λ stands c here. faults_first next acts (at old files) (at new c) fault (first.made stands c here);
    stands = tt;
  }

  -- .. or they went to their end, and the next were run
  pub made_next : {files_mid files_now : Files} {between now : Files → Type 0} {mid new : Moment} {end : S} {ended : Ended F T}
      → MadeAt acts (went end) files image files_mid between old mid → MadeAt (next end) ended files_mid between files_now now mid new → MadeAt (bind acts next) ended files image files_now now old new
  made_next {files_mid = files_mid} {files_now = files_now} {between = between} {now = now} {mid = mid} {new = new} {end = end} {ended = ended} first second = record {
    made = λ stands c here.
        let stood = first.stands stands in
        runs_next next acts ended (at old files) (at mid files_mid) (at new c) end (first.made stands files_mid stood.itself) (second.made stood c here);
    stands = stood_again ended second.stands;
  }
    where
      stood_again : (how : Ended F T) → IfWent how (Stands files_mid between → Stands files_now now) → IfWent how (Stands files image → Stands files_now now)
      stood_again (went last) then = λ stands. then (first.stands stands)
      stood_again (stopped fault) then = tt
      stood_again (broken cause) then = tt

-- NOTHING, OR A LINE

same_at : (files : Files) (image : Files → Type 0) (m : Moment) → Stands files image → (c : Files) → image c → at m c ≡ at m files
same_at files image m stands c here = ap (at m) (stands.lands.only c here)

module _ {F S : Type 0} (files : Files) (image : Files → Type 0) where
  pub made_nothing : {end its : S} (m : Moment) → end ≡ its → MadeAt {F = F} (Goes its) (went end) files image files image m m
  made_nothing m is = record { made = λ stands c here. (same_at files image m stands c here, is); stands = λ stands. stands }

  pub made_none : (acts : Acts F S) {how : Ended F S} (m : Moment) (cause : Cause) → IsBetween cause → how ≡ broken cause → MadeAt acts how files image files image m m
  made_none acts m cause between is = subst (λ (x : Ended F S). MadeAt acts x files image files image m m) (sym is) (record {
    made = λ stands c here. subst (λ (w : World). Breaks cause acts (at m files) w) (sym (same_at files image m stands c here)) (breaks_none cause between acts (at m files));
    stands = tt;
  })

  pub made_none_said : (acts : Acts F S) {how : Ended F S} {out now : List Entry} {s : Secrets} {f : Burn} (cause : Cause) → IsBetween cause → now ≡ out → how ≡ broken cause → MadeAt acts how files image files image (moment out s f) (moment now s f)
  made_none_said acts {how} {out} {now} {s} {f} cause between same is = subst (λ (l : List Entry). MadeAt acts how files image files image (moment out s f) (moment l s f)) (sym same) (made_none acts (moment out s f) cause between is)

  pub made_none_held : (acts : Acts F S) {how : Ended F S} {out : List Entry} {s now : Secrets} {f : Burn} (cause : Cause) → IsBetween cause → now ≡ s → how ≡ broken cause → MadeAt acts how files image files image (moment out s f) (moment out now f)
  made_none_held acts {how} {out} {s} {now} {f} cause between same is = subst (λ (t : Secrets). MadeAt acts how files image files image (moment out s f) (moment out t f)) (sym same) (made_none acts (moment out s f) cause between is)

  -- the devices were read
  pub made_read : (view : Held → S) {end : S} {out : List Entry} {s now : Secrets} {f : Burn} → now ≡ s → end ≡ view (held_in files s) → MadeAt {F = F} (Ask (λ h. Goes (view h))) (went end) files image files image (moment out s f) (moment out now f)
  made_read view {end} {out} {s} {now} {f} same is = subst (λ (t : Secrets). MadeAt {F = F} (Ask (λ h. Goes (view h))) (went end) files image files image (moment out s f) (moment out t f)) (sym same) (record {
    made = λ stands c here. (same_at files image (moment out s f) stands c here, is);
    stands = λ stands. stands;
  })

  -- acts on secrets alone
  pub made_of_secrets : {acts : Acts F S} {how : Ended F S} {out : List Entry} {s now : Secrets} {f g : Burn} → ((j : Journaled) → Runs acts how (world out j s f) (world out j now g)) → MadeAt acts how files image files image (moment out s f) (moment out now g)
  made_of_secrets {acts} {how} {out} {s} {now} {f} {g} runs = record {
    made = λ stands c here. subst (λ (w : World). Runs acts how (at (moment out s f) files) w) (sym (same_at files image (moment out now g) stands c here)) (runs (journaled files));
    stands = stood how;
  }
    where
      stood : (ended : Ended F S) → IfWent ended (Stands files image → Stands files image)
      stood (went end) = λ stands. stands
      stood (stopped fault) = tt
      stood (broken cause) = tt

  pub made_say : (line : Entry) (end : S) (out now : List Entry) (s : Secrets) (f : Burn) → now ≡ out ++ line ∷ [] → MadeAt {F = F} (Say line (Goes end)) (went end) files image files image (moment out s f) (moment now s f)
  made_say line end out now s f is = record {
    made = λ stands c here. (same_at files image (moment now s f) stands c here ∙ ap (λ (l : List Entry). record { out = l; held = held_in files s; fuse = f }) is, refl);
    stands = λ stands. stands;
  }

-- a loop that has begun, one turn more, and its end
pub goes_on_first : {F S : Type 0} (acts : Acts F S) (files : Files) (image : Files → Type 0) (old : Moment) → RunsRest acts acts files image files image old old
goes_on_first acts files image old = record { stood = λ stands. stands; on = λ stands ended new runs. runs }

pub goes_on_next : {F R S : Type 0} {whole : Acts F R} {first : Acts F S} (next : S → Acts F R) {files files_here files_mid : Files} {image here between : Files → Type 0} {old mid new : Moment} {end : S}
    → RunsRest whole (bind first next) files image files_here here old mid → MadeAt first (went end) files_here here files_mid between mid new → RunsRest whole (next end) files image files_mid between old new
goes_on_next {first = first} next {files_here = files_here} {files_mid = files_mid} {mid = mid} {new = new} {end = end} goes made = record {
  stood = λ stands. made.stands (goes.stood stands);
  on = λ stands ended last runs.
      let here = goes.stood stands in
      goes.on stands ended last (runs_next next first ended (at mid files_here) (at new files_mid) last end (made.made here files_mid (made.stands here).itself) runs);
}

pub goes_on_last : {F S : Type 0} {whole rest : Acts F S} {files files_here files_now : Files} {image here now : Files → Type 0} {old mid new : Moment} {ended : Ended F S}
    → RunsRest whole rest files image files_here here old mid → MadeAt rest ended files_here here files_now now mid new → MadeAt whole ended files image files_now now old new
goes_on_last {F = F} {S = S} {files = files} {files_here = files_here} {files_now = files_now} {image = image} {here = here} {now = now} {new = new} {ended = ended} goes made = record {
  made = λ stands c left. goes.on stands ended (at new c) (made.made (goes.stood stands) c left);
  stands = stood ended made.stands;
}
  where
    stood : (how : Ended F S) → IfWent how (Stands files_here here → Stands files_now now) → IfWent how (Stands files image → Stands files_now now)
    stood (went end) then = λ stands. then (goes.stood stands)
    stood (stopped fault) then = tt
    stood (broken cause) then = tt

-- ALONG THEM

module _ {F S : Type 0} (P : World → Type 0) where
  pub along_breaks : (cause : Cause) (acts : Acts F S) (w new : World) → Along P acts w → Breaks cause acts w new → P new
  along_breaks cause (Say line acts) w new (here, later) (inl none) = subst P (sym none.1) here
  along_breaks cause (Say line acts) w new (here, later) (inr more) = along_breaks cause acts (says w line) new later more
  along_breaks cause (Do op acts) w new (torn, later) (inl tears) = torn cause new tears
  along_breaks cause (Do op acts) w new (torn, later) (inr more) = along_breaks cause acts (does w op) new later more
  along_breaks cause (Ask f) w new along b = along_breaks cause (f w.held) w new along b
  along_breaks cause (Goes end) w new here none = subst P (sym none.1) here
  along_breaks cause (Stops fault) w new here none = subst P (sym none.1) here

  pub along_completes : (acts : Acts F S) (w new : World) (end : S) → Along P acts w → Completes acts end w new → P new
  along_completes (Say line acts) w new end (here, later) all = along_completes acts (says w line) new end later all
  along_completes (Do op acts) w new end (torn, later) all = along_completes acts (does w op) new end later all
  along_completes (Ask f) w new end along all = along_completes (f w.held) w new end along all
  along_completes (Goes its) w new end here all = subst P (sym all.0) here
  along_completes (Stops fault) w new end here all = absurd all

  pub along_faults : (acts : Acts F S) (w new : World) (fault : F) → Along P acts w → Faults acts fault w new → P new
  along_faults (Say line acts) w new fault (here, later) all = along_faults acts (says w line) new fault later all
  along_faults (Do op acts) w new fault (torn, later) all = along_faults acts (does w op) new fault later all
  along_faults (Ask f) w new fault along all = along_faults (f w.held) w new fault along all
  along_faults (Goes end) w new fault here all = absurd all
  along_faults (Stops its) w new fault here all = subst P (sym all.0) here

  -- wherever they ended
  pub along_runs : (acts : Acts F S) (ended : Ended F S) (w new : World) → Along P acts w → Runs acts ended w new → P new
  along_runs acts (went end) w new along all = along_completes acts w new end along all
  along_runs acts (stopped fault) w new along all = along_faults acts w new fault along all
  along_runs acts (broken cause) w new along all = along_breaks cause acts w new along all

-- a fuse counts each call
pub burnt-burned : {O : Type 0} (ops : List O) (f : Burn) → burned ops f ≡ burnt (length ops) f
burnt-burned [] f = refl
burnt-burned (op ∷ ops) f = burnt-burned ops (spent_once f)

pub no_more : {O : Type 0} (first rest calls : List O) → calls ≡ first ++ rest → length first ≤ length calls
no_more first rest calls is = let n : length calls ≡ length (first ++ rest) = ap length is in let m = length-append first rest in omega arith
