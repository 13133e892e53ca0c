-- What inclusion became, where calls come one behind another.
use Rattle.std.proofs.Common.{◌≡◌, ℕ, List, [], ◌++◌, refl, ◌∙◌, ap}
use Rattle.dkg_types.specs.declared.scheme.SchemeInfo.{SchemeInfo}
use Rattle.dkg_core.specs.Live.{Inclusion, Orchestrator}
use Rattle.dkg_life.specs.LiveOf.{Beside, EndsWith}

abbrev pub NoMore : List (ℕ × SchemeInfo) → Type 0
NoMore more = more ≡ []

module _ {Dir : Type 0} where
  -- the same, of which more is known
  pub within_as : {beside : Beside Dir} {I J : Inclusion Dir → Type 0} {T : List (ℕ × SchemeInfo) → Type 0} {P Q : Beside Dir → Type 0} → ((i : Inclusion Dir) → I i → J i)
      → ((now : Beside Dir) → I now.inclusion → P now → Q now) → EndsWith beside I T P → EndsWith beside J T Q
  within_as known so ends = record {
    now = ends.now;
    inclusion = known ends.now.inclusion ends.inclusion;
    more = ends.more;
    schemes = ends.schemes;
    took = ends.took;
    probe = ends.probe;
    orchestrator = ends.orchestrator;
    holds = so ends.now ends.inclusion ends.holds;
  }

  -- behind a call that touched inclusion alone
  pub within_behind : (beside : Beside Dir) (i : Inclusion Dir) {I : Inclusion Dir → Type 0} {T : List (ℕ × SchemeInfo) → Type 0} {P : Beside Dir → Type 0} → EndsWith (record beside { inclusion = i }) I T P → EndsWith beside I T P
  within_behind beside i ends = record { now = ends.now; inclusion = ends.inclusion; more = ends.more; schemes = ends.schemes; took = ends.took; probe = ends.probe; orchestrator = ends.orchestrator; holds = ends.holds }

  -- two calls, one behind another
  pub within_then : (beside : Beside Dir) {I J : Inclusion Dir → Type 0} {P Q : Beside Dir → Type 0} → EndsWith beside I NoMore P → ((now : Beside Dir) → I now.inclusion → P now → EndsWith now J NoMore Q) → EndsWith beside J NoMore Q
  within_then beside first next =
      let second = next first.now first.inclusion first.holds in
      record {
        now = second.now;
        inclusion = second.inclusion;
        more = [];
        schemes =
            second.schemes ∙ ap (λ (l : List (ℕ × SchemeInfo)). l ++ first.now.orchestrator.schemes) second.took
            ∙ first.schemes ∙ ap (λ (l : List (ℕ × SchemeInfo)). l ++ beside.orchestrator.schemes) first.took;
        took = refl;
        probe = second.probe ∙ first.probe;
        orchestrator = second.orchestrator ∙ ap (λ (o : Orchestrator Dir). record o { schemes = second.now.orchestrator.schemes }) first.orchestrator;
        holds = second.holds;
      }
