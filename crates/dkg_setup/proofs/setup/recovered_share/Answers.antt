use Rattle.std.proofs.Common.{◌≡◌, ◌⊎◌, inl, inr, ℕ, ◌<◌, ◌∙◌, true, Option, ap, subst, sym}
use Rattle.std.specs.Prelude.{is_some, IfSome}
use Rattle.std.specs.FinMap.{empty, entries, get-empty, insert}
use Rattle.std.specs.Ordering.{nat_cmp}
use Rattle.dkg_core.specs.Setup as setup
use Rattle.dkg_secrets.specs.Secrets.{Secrets}
use Rattle.dkg_infos.specs.declared.outcome.EpochOutcome.TheVariants.{Failure}
use Rattle.dkg_life.proofs.Calls.{moved_called}
use Rattle.dkg_life.proofs.Kept.{moved_then}
use Rattle.dkg_life.proofs.Shares.{apart_of, below_found, below_only, gives_below, gives_none, gives_none_below, gives_none_fitting, gives_stored, is_failure, none_found, not_failure, not_some, one_at, one_is, same_of}
use Rattle.dkg_setup.proofs.setup.recovered_share.Goals as goal
use Rattle.dkg_setup.proofs.setup.recovered_share.Goals.{then-is_some-via-then-is_some, then-is_some-via-else-is_some+then-ne, in_default-2-via-in-Some-2+else-eq, in_default-2-via-in_default-2}

pub returns-then-is_some-clause-share : goal.returns-then-is_some-clause-share
returns-then-is_some-clause-share g c = λ told.
    let early : (is_some c.in_ok-stored.stored ≡ true) ⊎ (c.args.info.now.outcome ≡ Failure → ⊥) =
    elim c.then-is_some.branch [ then-is_some-via-then-is_some w ↦ inl (sym c.is_some.ensures ∙ w.if-is_some.true) | then-is_some-via-else-is_some+then-ne w ↦ inr (not_failure c.args.info.now.outcome (sym w.ne.ensures ∙ w.if-ne.true)) ] in
    gives_stored g.C.Ceremony.share_public_of g.C.Ceremony.partial_public_of c.args.me c.args.info.now (g.X.SecretStore.held c.args.devices.now.secrets.now).shares c.in_ok-stored.stored (sym (c.in_ok-stored.ensures.share told)) early

pub returns-then-is_some-clause-any : goal.returns-then-is_some-clause-any
returns-then-is_some-clause-any g c =
    let early : (is_some c.in_ok-stored.stored ≡ true) ⊎ (c.args.info.now.outcome ≡ Failure → ⊥) =
    elim c.then-is_some.branch [ then-is_some-via-then-is_some w ↦ inl (sym c.is_some.ensures ∙ w.if-is_some.true) | then-is_some-via-else-is_some+then-ne w ↦ inr (not_failure c.args.info.now.outcome (sym w.ne.ensures ∙ w.if-ne.true)) ] in (
      one_at c.args.info.now.epoch c.in_ok-stored.stored,
      gives_stored g.C.Ceremony.share_public_of g.C.Ceremony.partial_public_of c.args.me c.args.info.now (one_at c.args.info.now.epoch c.in_ok-stored.stored) c.in_ok-stored.stored (one_is c.args.info.now.epoch c.in_ok-stored.stored) early,
    )

pub returns-in_default-clause-share : goal.returns-in_default-clause-share
returns-in_default-clause-share g c = λ told.
    gives_none g.C.Ceremony.share_public_of g.C.Ceremony.partial_public_of c.args.me c.args.info.now (g.X.SecretStore.held c.args.devices.now.secrets.now).shares
    (sym (c.in_ok-stored.ensures.share told) ∙ not_some c.in_ok-stored.stored (sym c.is_some.ensures ∙ c.if-is_some.false)) (sym c.partial_public.ensures ∙ c.in_default.is)

pub returns-in_default-clause-any : goal.returns-in_default-clause-any
returns-in_default-clause-any g c =
    (empty, gives_none g.C.Ceremony.share_public_of g.C.Ceremony.partial_public_of c.args.me c.args.info.now empty (get-empty nat_cmp c.args.info.now.epoch) (sym c.partial_public.ensures ∙ c.in_default.is))

pub returns-in_err-share-clause-moved : goal.returns-in_err-share-clause-moved
returns-in_err-share-clause-moved g c =
    moved_then g.D.Disk.tells g.D.Disk.made g.X.SecretStore.made g.D.Disk.faults g.X.SecretStore.faults g.met.D.Disk.made_more g.met.X.SecretStore.made_more _ _ _
    (moved_called g.D.Disk.tells g.D.Disk.made g.X.SecretStore.made g.D.Disk.faults g.X.SecretStore.faults (λ told. tt) c.share.ensures.called) c.share_below.ensures.moved

pub returns-in-Some-2-clause-moved : goal.returns-in-Some-2-clause-moved
returns-in-Some-2-clause-moved g c =
    moved_then g.D.Disk.tells g.D.Disk.made g.X.SecretStore.made g.D.Disk.faults g.X.SecretStore.faults g.met.D.Disk.made_more g.met.X.SecretStore.made_more _ _ _
    (moved_called g.D.Disk.tells g.D.Disk.made g.X.SecretStore.made g.D.Disk.faults g.X.SecretStore.faults (λ told. tt) c.share.ensures.called) c.share_below.ensures.moved

pub returns-in_default-2-clause-moved : goal.returns-in_default-2-clause-moved
returns-in_default-2-clause-moved g c =
    moved_then g.D.Disk.tells g.D.Disk.made g.X.SecretStore.made g.D.Disk.faults g.X.SecretStore.faults g.met.D.Disk.made_more g.met.X.SecretStore.made_more _ _ _
    (moved_called g.D.Disk.tells g.D.Disk.made g.X.SecretStore.made g.D.Disk.faults g.X.SecretStore.faults (λ told. tt) c.share.ensures.called) c.share_below.ensures.moved

pub returns-in-Some-2-clause-share : goal.returns-in-Some-2-clause-share
returns-in-Some-2-clause-share g c = λ told.
    gives_below g.C.Ceremony.share_public_of g.C.Ceremony.partial_public_of c.args.me c.args.info.now (g.X.SecretStore.held c.args.devices.now.secrets.now).shares
    (sym (c.in_ok-stored.ensures.share told) ∙ not_some c.in_ok-stored.stored (sym c.is_some.ensures ∙ c.if-is_some.false)) (is_failure c.args.info.now.outcome (sym c.ne.ensures ∙ c.if-ne.false))
    c.in-Some-2.share (sym (ap (λ (s : Secrets). setup.share_below (entries s.shares) c.args.info.now.epoch) c.share.ensures.same) ∙ sym (c.in_ok-share.ensures.share told) ∙ c.in-Some-2.is)
    c.in-Some.expected (sym c.partial_public.ensures ∙ c.in-Some.is)
    (sym c.share_public.ensures ∙ same_of c.eq.result c.share_public.result c.in-Some.expected c.eq.ensures c.if-eq.true)

pub returns-in-Some-2-clause-any : goal.returns-in-Some-2-clause-any
returns-in-Some-2-clause-any g c =
    let some : 0 < c.args.info.now.epoch = subst (λ (o : Option ℕ). IfSome o (λ its. 0 < c.args.info.now.epoch)) c.in-Some-2.is c.in_ok-share.ensures.some in (
      insert empty 0 c.in-Some-2.share,
      gives_below g.C.Ceremony.share_public_of g.C.Ceremony.partial_public_of c.args.me c.args.info.now (insert empty 0 c.in-Some-2.share)
          (below_only c.in-Some-2.share c.args.info.now.epoch some) (is_failure c.args.info.now.outcome (sym c.ne.ensures ∙ c.if-ne.false))
          c.in-Some-2.share (below_found c.in-Some-2.share c.args.info.now.epoch some) c.in-Some.expected (sym c.partial_public.ensures ∙ c.in-Some.is)
          (sym c.share_public.ensures ∙ same_of c.eq.result c.share_public.result c.in-Some.expected c.eq.ensures c.if-eq.true),
    )

pub returns-in_default-2-clause-share : goal.returns-in_default-2-clause-share
returns-in_default-2-clause-share g c = λ told.
    let stored = (g.X.SecretStore.held c.args.devices.now.secrets.now).shares in
    let none_at = sym (c.in_ok-stored.ensures.share told) ∙ not_some c.in_ok-stored.stored (sym c.is_some.ensures ∙ c.if-is_some.false) in
    let fails = is_failure c.args.info.now.outcome (sym c.ne.ensures ∙ c.if-ne.false) in
    let found = sym (ap (λ (s : Secrets). setup.share_below (entries s.shares) c.args.info.now.epoch) c.share.ensures.same) ∙ sym (c.in_ok-share.ensures.share told) in
    elim c.in_default-2.branch [
      | in_default-2-via-in-Some-2+else-eq w ↦ gives_none_fitting g.C.Ceremony.share_public_of g.C.Ceremony.partial_public_of c.args.me c.args.info.now stored none_at fails
          w.in-Some-2.share (found ∙ w.in-Some-2.is) c.in-Some.expected (sym c.partial_public.ensures ∙ c.in-Some.is)
          (λ same. apart_of w.eq.result w.share_public.result c.in-Some.expected w.eq.ensures w.if-eq.false (w.share_public.ensures ∙ same))
      | in_default-2-via-in_default-2 w ↦ gives_none_below g.C.Ceremony.share_public_of g.C.Ceremony.partial_public_of c.args.me c.args.info.now stored none_at fails (found ∙ w.in_default-2.is)
    ]

pub returns-in_default-2-clause-any : goal.returns-in_default-2-clause-any
returns-in_default-2-clause-any g c =
    let fails = is_failure c.args.info.now.outcome (sym c.ne.ensures ∙ c.if-ne.false) in
    elim c.in_default-2.branch [
      | in_default-2-via-in-Some-2+else-eq w ↦
          let some : 0 < c.args.info.now.epoch = subst (λ (o : Option ℕ). IfSome o (λ its. 0 < c.args.info.now.epoch)) w.in-Some-2.is c.in_ok-share.ensures.some in (
            insert empty 0 w.in-Some-2.share,
            gives_none_fitting g.C.Ceremony.share_public_of g.C.Ceremony.partial_public_of c.args.me c.args.info.now (insert empty 0 w.in-Some-2.share)
                (below_only w.in-Some-2.share c.args.info.now.epoch some) fails
                w.in-Some-2.share (below_found w.in-Some-2.share c.args.info.now.epoch some) c.in-Some.expected (sym c.partial_public.ensures ∙ c.in-Some.is)
                (λ same. apart_of w.eq.result w.share_public.result c.in-Some.expected w.eq.ensures w.if-eq.false (w.share_public.ensures ∙ same)),
          )
      | in_default-2-via-in_default-2 w ↦
          (empty, gives_none_below g.C.Ceremony.share_public_of g.C.Ceremony.partial_public_of c.args.me c.args.info.now empty (get-empty nat_cmp c.args.info.now.epoch) fails (none_found c.args.info.now.epoch))
    ]
