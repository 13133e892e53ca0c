-- What calls registered: nothing, one scheme, or what two calls did one behind another.
use Rattle.std.proofs.Common.{◌≡◌, ℕ, Bool, List, [], ◌∷◌, ◌++◌, Option, None, Result, Ok, Err, refl, sym, ◌∙◌, ap, subst, append_assoc, append-nil}
use Rattle.std.specs.Prelude.{IsTrue, OnOk, reverse}
use Rattle.std.proofs.lemmas.List.{reverse-append}
use Rattle.dkg_infos.specs.declared.info.EpochInfo.{EpochInfo}
use Rattle.dkg_types.specs.declared.scheme.SchemeInfo.{SchemeInfo}
use Rattle.dkg_core.specs.Asked.{IsEmptied}
use Rattle.dkg_core.specs.Live.{Inclusion, Orchestrator}
use Rattle.dkg_life.specs.LiveOf.{Beside, EndsBeside, EndsWith, TookSchemes, nothing_beside, scheme_by, with_scheme_of}

module _ {Dir : Type 0} (beside : Beside Dir) (TookThese : List (ℕ × SchemeInfo) → Type 0) (P : Beside Dir → Type 0) where
  -- nothing
  pub none_beside : TookThese [] → P beside → EndsBeside beside TookThese P
  none_beside took holds = record { now = beside; inclusion = refl; more = []; schemes = refl; took = took; probe = refl; orchestrator = refl; holds = holds }

  -- an info's scheme
  pub one_beside : (me : ℕ) (info : EpochInfo Dir) (share : Option ℕ) → TookThese (scheme_by me info share ∷ []) → P (with_scheme_of me info share beside) → EndsBeside beside TookThese P
  one_beside me info share took holds =
      record { now = with_scheme_of me info share beside; inclusion = refl; more = scheme_by me info share ∷ []; schemes = refl; took = took; probe = refl; orchestrator = refl; holds = holds }

-- the same, of which more is known
pub beside_as : {Dir : Type 0} {beside : Beside Dir} {T U : List (ℕ × SchemeInfo) → Type 0} {P Q : Beside Dir → Type 0} → ((more : List (ℕ × SchemeInfo)) → T more → U more) → ((now : Beside Dir) → P now → Q now)
    → EndsBeside beside T P → EndsBeside beside U Q
beside_as took so ends = record { now = ends.now; inclusion = ends.inclusion; more = ends.more; schemes = ends.schemes; took = took ends.more ends.took; probe = ends.probe; orchestrator = ends.orchestrator; holds = so ends.now ends.holds }

-- .. by what inclusion has, which is as it was
pub beside_kept : {Dir : Type 0} {beside : Beside Dir} {T U : List (ℕ × SchemeInfo) → Type 0} {P Q : Beside Dir → Type 0} → ((more : List (ℕ × SchemeInfo)) → T more → U more)
    → ((now : Beside Dir) → now.inclusion ≡ beside.inclusion → P now → Q now) → EndsBeside beside T P → EndsBeside beside U Q
beside_kept took so ends = record { now = ends.now; inclusion = ends.inclusion; more = ends.more; schemes = ends.schemes; took = took ends.more ends.took; probe = ends.probe; orchestrator = ends.orchestrator; holds = so ends.now ends.inclusion ends.holds }

-- an info's scheme, and then what another call registered
pub then_beside : {Dir : Type 0} (beside : Beside Dir) (me : ℕ) (info : EpochInfo Dir) (share : Option ℕ) {T U : List (ℕ × SchemeInfo) → Type 0} {P Q : Beside Dir → Type 0}
    → ((more : List (ℕ × SchemeInfo)) → T more → U (more ++ scheme_by me info share ∷ [])) → ((now : Beside Dir) → P now → Q now) → EndsBeside (with_scheme_of me info share beside) T P → EndsBeside beside U Q
then_beside {Dir} beside me info share took so ends = record {
  now = ends.now;
  inclusion = ends.inclusion;
  more = ends.more ++ scheme_by me info share ∷ [];
  schemes = ends.schemes ∙ sym (append_assoc ends.more (scheme_by me info share ∷ []) beside.orchestrator.schemes);
  took = took ends.more ends.took;
  probe = ends.probe;
  orchestrator = ends.orchestrator;
  holds = so ends.now ends.holds;
}

pub took_none : (tells : Bool) (taken : List (ℕ × SchemeInfo)) → TookSchemes tells taken taken []
took_none tells taken = λ told. sym (append-nil taken)

pub took_nothing : (tells : Bool) (taken more : List (ℕ × SchemeInfo)) → more ≡ [] → TookSchemes tells taken taken more
took_nothing tells taken more none = subst (λ (l : List (ℕ × SchemeInfo)). TookSchemes tells taken taken l) (sym none) (took_none tells taken)

-- one taking behind another
pub took_then : (tells : Bool) (old mid new first more : List (ℕ × SchemeInfo)) → (IsTrue tells → mid ≡ old ++ reverse first) → TookSchemes tells mid new more → TookSchemes tells old new (more ++ first)
took_then tells old mid new first more one other = λ told.
    other told
    ∙ ap (λ (l : List (ℕ × SchemeInfo)). l ++ reverse more) (one told)
    ∙ append_assoc old (reverse first) (reverse more)
    ∙ ap (λ (l : List (ℕ × SchemeInfo)). old ++ l) (sym (reverse-append more first))

-- where a call went well, what follows holds
pub then_well : {T E A B : Type 0} (r : Result T E) → (A → B) → OnOk r A → OnOk r B
then_well (Ok x) so a = so a
then_well (Err e) so a = tt

-- WHERE NOTHING OF AN EPOCH IS IN WHAT INCLUSION HAS

pub nothing_fresh : {Dir : Type 0} → IsEmptied (nothing_beside {Dir = Dir}).inclusion
nothing_fresh = record { served = refl; queue = refl; running = refl; waiter = refl; retained = refl; cached = refl }

pub fresh_as : {Dir : Type 0} (old now : Inclusion Dir) → now ≡ old → IsEmptied old → IsEmptied now
fresh_as {Dir} old now same fresh = subst (λ (i : Inclusion Dir). IsEmptied i) (sym same) fresh

-- what a setup begins with, of what inclusion has
abbrev pub emptied : {Dir : Type 0} → Inclusion Dir → Inclusion Dir
emptied i = record i { served = None; queue = []; running = None; waiter = None; retained = None; cached = None }

pub emptied_fresh : {Dir : Type 0} (i : Inclusion Dir) → IsEmptied (emptied i)
emptied_fresh i = record { served = refl; queue = refl; running = refl; waiter = refl; retained = refl; cached = refl }

pub fresh_stays : {Dir : Type 0} (i : Inclusion Dir) → IsEmptied i → emptied i ≡ i
fresh_stays i fresh = λ k. record i {
  served = sym fresh.served k;
  queue = sym fresh.queue k;
  running = sym fresh.running k;
  waiter = sym fresh.waiter k;
  retained = sym fresh.retained k;
  cached = sym fresh.cached k;
}

-- WHERE WHAT INCLUSION HAS MAY BECOME ANOTHER

module _ {Dir : Type 0} (beside : Beside Dir) where
  -- it became this, and nothing was registered
  pub none_with : (IsNow : Inclusion Dir → Type 0) (TookThese : List (ℕ × SchemeInfo) → Type 0) (P : Beside Dir → Type 0) (i : Inclusion Dir) → IsNow i → TookThese [] → P (record beside { inclusion = i })
      → EndsWith beside IsNow TookThese P
  none_with IsNow TookThese P i is took holds =
      record { now = record beside { inclusion = i }; inclusion = is; more = []; schemes = refl; took = took; probe = refl; orchestrator = refl; holds = holds }

  module _ (i : Inclusion Dir) {T U : List (ℕ × SchemeInfo) → Type 0} {P Q : Beside Dir → Type 0} (took : (more : List (ℕ × SchemeInfo)) → T more → U more) (so : (now : Beside Dir) → P now → Q now) where
    -- a call that began with this went on from there
    pub with_as : {M N : Inclusion Dir → Type 0} → ((its : Inclusion Dir) → M its → N its) → EndsWith (record beside { inclusion = i }) M T P → EndsWith beside N U Q
    with_as is ends = record {
      now = ends.now;
      inclusion = is ends.now.inclusion ends.inclusion;
      more = ends.more;
      schemes = ends.schemes;
      took = took ends.more ends.took;
      probe = ends.probe;
      orchestrator = ends.orchestrator;
      holds = so ends.now ends.holds;
    }

    -- .. and left it so
    pub with_in : (N : Inclusion Dir → Type 0) → N i → EndsBeside (record beside { inclusion = i }) T P → EndsWith beside N U Q
    with_in N is ends = record {
      now = ends.now;
      inclusion = subst N (sym ends.inclusion) is;
      more = ends.more;
      schemes = ends.schemes;
      took = took ends.more ends.took;
      probe = ends.probe;
      orchestrator = ends.orchestrator;
      holds = so ends.now ends.holds;
    }

-- two calls, of which the first registered nothing
pub with_then : {Dir : Type 0} (beside : Beside Dir) {M N : Inclusion Dir → Type 0} {T : List (ℕ × SchemeInfo) → Type 0} {P Q : Beside Dir → Type 0}
    → EndsWith beside M (λ more. more ≡ []) P → ((now : Beside Dir) → M now.inclusion → P now → EndsWith now N T Q) → EndsWith beside N T Q
with_then {Dir} beside first next =
    let second = next first.now first.inclusion first.holds in
    record {
      now = second.now;
      inclusion = second.inclusion;
      more = second.more;
      schemes = second.schemes ∙ ap (λ (l : List (ℕ × SchemeInfo)). second.more ++ l) (first.schemes ∙ ap (λ (l : List (ℕ × SchemeInfo)). l ++ beside.orchestrator.schemes) first.took);
      took = second.took;
      probe = second.probe ∙ first.probe;
      orchestrator = second.orchestrator ∙ ap (λ (o : Orchestrator Dir). record o { schemes = second.now.orchestrator.schemes }) first.orchestrator;
      holds = second.holds;
    }
