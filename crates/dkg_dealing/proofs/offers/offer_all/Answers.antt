use Rattle.std.proofs.Common.{◌≡◌, ◌++◌, ◌∷◌, [], ℕ, List, ap, refl, sym, subst, ◌∙◌, arith, length, append-nil, append_assoc}
use Rattle.std.specs.Prelude.{IsSomeAnd}
use Rattle.std.specs.List.{AllByRecursion}
use Rattle.std.specs.Vec.Iter.{into_iter_items}
use Rattle.std.proofs.lemmas.Result.{err_from_is_err_and}
use Rattle.dkg_life.specs.LiveOf.{live_of}
use Rattle.dkg_life.proofs.Blamed.{caused_behind}
use Rattle.dkg_life.proofs.Burning.{makes_nothing}
use Rattle.dkg_life.proofs.Dealt.{dealt_on, halves_same, halves_then, rest_then, round_on}
use Rattle.dkg_life.proofs.Kept.{moved_none, moved_then}
use Rattle.dkg_life.proofs.Offered.{IsHalf, all_made, all_told, first_half, halves_at, halves_next, nothing_left, turn_broken, turn_made, turn_said, turn_unsaid}
use Rattle.dkg_dealing.proofs.offers.offer_all.Goals as goal

pub loop-player-init : goal.loop-player-init
loop-player-init g c =
    let is : into_iter_items c.into_iter-player-iterator.result ≡ c.args.unsent.items = c.into_iter-player-iterator.ensures.into_iter_gives.0 in
    record {
      ready = c.requires.ready;
      rest = refl;
      current = refl;
      stays = halves_same c.args.life.now.dealer;
      halves = subst (λ (l : List (ℕ × List ℕ × ℕ)). IsSomeAnd c.args.life.now.dealer (λ d. AllByRecursion (IsHalf d.public d.privates) l)) (sym is) c.requires.halves;
      are = is;
      count = c.into_iter-player-iterator.ensures.into_iter_gives.1 ∙ c.args.unsent.ok.0 ∙ sym (ap (λ (l : List (ℕ × List ℕ × ℕ)). length l) is);
      acts = λ disk secrets fixed round dealer beside fence of by has deals. makes_nothing _ _ _ refl;
      tells = λ fixed round dealer beside fence of by has deals. record { lines = []; added = sym (append-nil c.args.out.now.entries); by = (refl, refl) };
      moved = moved_none g.D.Disk.tells g.D.Disk.made g.X.SecretStore.made g.D.Disk.faults g.X.SecretStore.faults g.met.D.Disk.made_none g.met.X.SecretStore.made_none c.args.devices.now;
      fit = λ told fit. fit;
    }

-- A TURN

pub offer-requires-clause-dealt : goal.offer-requires-clause-dealt
offer-requires-clause-dealt g c = dealt_on c.args.life.now c.loop-player.life c.loop-player.invariant.rest c.args.epoch c.requires.dealt

pub offer-requires-clause-half : goal.offer-requires-clause-half
offer-requires-clause-half g c =
    let step : into_iter_items c.loop-player.player-iterator ≡ (c.in-Some.player, c.in-Some.public, c.in-Some.private) ∷ into_iter_items c.next.new.self = c.in-Some.ensures.steps.0 in
    first_half c.loop-player.life.dealer c.in-Some.player c.in-Some.public c.in-Some.private (into_iter_items c.next.new.self) (halves_at c.loop-player.life.dealer _ _ step c.loop-player.invariant.halves)

pub loop-player-preserved : goal.loop-player-preserved
loop-player-preserved g c =
    let step : into_iter_items c.loop-player.player-iterator ≡ (c.in-Some.player, c.in-Some.public, c.in-Some.private) ∷ into_iter_items c.next.new.self = c.in-Some.ensures.steps.0 in
    let inv = c.loop-player.invariant in
    let one : ℕ × List ℕ × ℕ = (c.in-Some.player, c.in-Some.public, c.in-Some.private) in
    record {
      ready = c.in_ok-offer.ensures.ready;
      rest = rest_then c.args.life.now c.loop-player.life c.offer.new.life inv.rest c.offer.ensures.rest;
      current = c.offer.ensures.current ∙ inv.current;
      stays = halves_then c.args.life.now.dealer c.loop-player.life.dealer c.offer.new.life.dealer inv.stays c.offer.ensures.stays;
      halves = halves_next c.loop-player.life.dealer c.offer.new.life.dealer c.in-Some.player c.in-Some.public c.in-Some.private (into_iter_items c.next.new.self) c.offer.ensures.stays (halves_at c.loop-player.life.dealer _ _ step inv.halves);
      count = omega (arith, inv.count, c.in-Some.ensures.steps.1, ap (λ (l : List (ℕ × List ℕ × ℕ)). length l) step);
      are = append_assoc c.loop-player.yielded (one ∷ []) (into_iter_items c.next.new.self) ∙ ap (λ (l : List (ℕ × List ℕ × ℕ)). c.loop-player.yielded ++ l) (sym step) ∙ inv.are;
      acts = λ disk secrets fixed round dealer beside fence of by has deals.
          turn_made fixed round dealer beside fence c.args.life.now c.loop-player.life c.loop-player.yielded c.in-Some.player c.in-Some.public c.in-Some.private (into_iter_items c.next.new.self) deals inv.stays (halves_at c.loop-player.life.dealer _ _ step inv.halves) _
          (inv.acts disk secrets fixed round dealer beside fence of by has deals)
          (c.in_ok-offer.ensures.acts disk secrets fixed round beside fence of by (round_on c.args.life.now c.loop-player.life inv.rest ∙ has));
      tells = λ fixed round dealer beside fence of by has deals.
          turn_said fixed round dealer beside fence c.args.life.now c.loop-player.life c.loop-player.yielded c.in-Some.player c.in-Some.public c.in-Some.private (into_iter_items c.next.new.self) deals inv.stays (halves_at c.loop-player.life.dealer _ _ step inv.halves) _
          (inv.tells fixed round dealer beside fence of by has deals)
          (c.in_ok-offer.ensures.tells fixed round beside fence of by (round_on c.args.life.now c.loop-player.life inv.rest ∙ has));
      moved = moved_then g.D.Disk.tells g.D.Disk.made g.X.SecretStore.made g.D.Disk.faults g.X.SecretStore.faults g.met.D.Disk.made_more g.met.X.SecretStore.made_more _ _ _ inv.moved c.offer.ensures.moved;
      fit = λ told fit. c.offer.ensures.fit told (inv.fit told fit);
    }

pub returns-in_err-offer-clause-rest : goal.returns-in_err-offer-clause-rest
returns-in_err-offer-clause-rest g c = rest_then c.args.life.now c.loop-player.life c.offer.new.life c.loop-player.invariant.rest c.offer.ensures.rest

pub returns-in_err-offer-clause-acts : goal.returns-in_err-offer-clause-acts
returns-in_err-offer-clause-acts g c = λ disk secrets fixed round dealer beside fence of by has deals.
    let p = err_from_is_err_and c.from_residual.result c.from_residual.ensures.1 in
    let step : into_iter_items c.loop-player.player-iterator ≡ (c.in-Some.player, c.in-Some.public, c.in-Some.private) ∷ into_iter_items c.next.new.self = c.in-Some.ensures.steps.0 in
    let inv = c.loop-player.invariant in
    rw (p.1, p.2) (turn_broken fixed round dealer beside fence c.args.life.now c.loop-player.life c.loop-player.yielded c.in-Some.player c.in-Some.public c.in-Some.private (into_iter_items c.next.new.self) deals inv.stays (halves_at c.loop-player.life.dealer _ _ step inv.halves)
    c.args.unsent.items (ap (λ (l : List (ℕ × List ℕ × ℕ)). c.loop-player.yielded ++ l) (sym step) ∙ inv.are) c.in_err-offer.field-0.0
    (inv.acts disk secrets fixed round dealer beside fence of by has deals)
    (c.in_err-offer.ensures.acts disk secrets fixed round beside fence of by (round_on c.args.life.now c.loop-player.life inv.rest ∙ has)))

pub returns-in_err-offer-clause-tells : goal.returns-in_err-offer-clause-tells
returns-in_err-offer-clause-tells g c = λ fixed round dealer beside fence of by has deals.
    let p = err_from_is_err_and c.from_residual.result c.from_residual.ensures.1 in
    let step : into_iter_items c.loop-player.player-iterator ≡ (c.in-Some.player, c.in-Some.public, c.in-Some.private) ∷ into_iter_items c.next.new.self = c.in-Some.ensures.steps.0 in
    let inv = c.loop-player.invariant in
    rw (p.1, p.2) (turn_unsaid fixed round dealer beside fence c.args.life.now c.loop-player.life c.loop-player.yielded c.in-Some.player c.in-Some.public c.in-Some.private (into_iter_items c.next.new.self) deals inv.stays (halves_at c.loop-player.life.dealer _ _ step inv.halves)
    c.args.unsent.items (ap (λ (l : List (ℕ × List ℕ × ℕ)). c.loop-player.yielded ++ l) (sym step) ∙ inv.are) c.in_err-offer.field-0.0
    (inv.tells fixed round dealer beside fence of by has deals)
    (c.in_err-offer.ensures.tells fixed round beside fence of by (round_on c.args.life.now c.loop-player.life inv.rest ∙ has)))

pub returns-in_err-offer-clause-moved : goal.returns-in_err-offer-clause-moved
returns-in_err-offer-clause-moved g c = moved_then g.D.Disk.tells g.D.Disk.made g.X.SecretStore.made g.D.Disk.faults g.X.SecretStore.faults g.met.D.Disk.made_more g.met.X.SecretStore.made_more _ _ _ c.loop-player.invariant.moved c.offer.ensures.moved

pub returns-in_err-offer-clause-causes : goal.returns-in_err-offer-clause-causes
returns-in_err-offer-clause-causes g c =
    let p = err_from_is_err_and c.from_residual.result c.from_residual.ensures.1 in
    rw (p.1, p.2) (caused_behind g.D.Disk.tells g.D.Disk.made g.X.SecretStore.made g.D.Disk.faults g.X.SecretStore.faults _ _ _ c.loop-player.invariant.moved c.offer.ensures.moved c.in_err-offer.field-0.0 c.in_err-offer.ensures.causes)

pub returns-in_err-offer-clause-fit : goal.returns-in_err-offer-clause-fit
returns-in_err-offer-clause-fit g c = λ told fit. c.offer.ensures.fit told (c.loop-player.invariant.fit told fit)

-- ALL OF THEM

pub returns-clause-acts : goal.returns-clause-acts
returns-clause-acts g c = λ disk secrets fixed round dealer beside fence of by has deals.
    let none : into_iter_items c.loop-player.player-iterator ≡ [] = nothing_left _ (sym c.loop-player.invariant.count ∙ c.in-None.ensures.steps.0) in
    all_made fixed round dealer.public (live_of beside fence c.args.life.now) c.loop-player.yielded c.args.unsent.items (sym (append-nil c.loop-player.yielded) ∙ ap (λ (l : List (ℕ × List ℕ × ℕ)). c.loop-player.yielded ++ l) (sym none) ∙ c.loop-player.invariant.are) _
    (c.loop-player.invariant.acts disk secrets fixed round dealer beside fence of by has deals)

pub returns-clause-tells : goal.returns-clause-tells
returns-clause-tells g c = λ fixed round dealer beside fence of by has deals.
    let none : into_iter_items c.loop-player.player-iterator ≡ [] = nothing_left _ (sym c.loop-player.invariant.count ∙ c.in-None.ensures.steps.0) in
    all_told fixed round dealer.public (live_of beside fence c.args.life.now) c.loop-player.yielded c.args.unsent.items (sym (append-nil c.loop-player.yielded) ∙ ap (λ (l : List (ℕ × List ℕ × ℕ)). c.loop-player.yielded ++ l) (sym none) ∙ c.loop-player.invariant.are) _
    (c.loop-player.invariant.tells fixed round dealer beside fence of by has deals)

pub returns-in_err-offer-clause-current : goal.returns-in_err-offer-clause-current
returns-in_err-offer-clause-current g c = c.offer.ensures.current ∙ c.loop-player.invariant.current

pub returns-clause-current : goal.returns-clause-current
returns-clause-current g c = c.loop-player.invariant.current
