use Rattle.std.proofs.Common.{ap, sym, ◌∙◌, length, List, ℕ}
use Rattle.dkg_store.proofs.Short.{event_short}
use Rattle.dkg_store.proofs.Handling.{handled_checked, handled_mirrors}
use Rattle.dkg_store_calls.proofs.playing.hear.Goals as goal

pub handle-requires-clause-short : goal.handle-requires-clause-short
handle-requires-clause-short g c = event_short c.args.heard.now.dealer c.in_ok-public.public (ap (λ (l : List ℕ). length l) (c.in_ok-public.ensures ∙ sym c.as_slice.ensures.items) ∙ c.if-as_slice-ne3.false)

pub returns-in_err-_ack-clause-mirrors : goal.returns-in_err-_ack-clause-mirrors
returns-in_err-_ack-clause-mirrors g c = handled_mirrors g.C.Ceremony.ack_of g.C.Ceremony.dealing_of c.args.player.now c.handle.new.self c.args.store.now c.handle.new.store _ _ c.args.epoch c.args.heard.now.dealer c.in_ok-public.public c.args.heard.now.private c.handle.result c.handle.ensures.handled

pub returns-in_err-_ack-clause-passes : goal.returns-in_err-_ack-clause-passes
returns-in_err-_ack-clause-passes g c = handled_checked g.C.Ceremony.ack_of g.C.Ceremony.dealing_of c.args.player.now c.handle.new.self c.args.store.now c.handle.new.store _ _ c.args.epoch c.args.heard.now.dealer c.in_ok-public.public c.args.heard.now.private c.handle.result c.handle.ensures.handled

pub returns-clause-mirrors : goal.returns-clause-mirrors
returns-clause-mirrors g c = handled_mirrors g.C.Ceremony.ack_of g.C.Ceremony.dealing_of c.args.player.now c.handle.new.self c.args.store.now c.handle.new.store _ _ c.args.epoch c.args.heard.now.dealer c.in_ok-public.public c.args.heard.now.private c.handle.result c.handle.ensures.handled

pub returns-clause-passes : goal.returns-clause-passes
returns-clause-passes g c = handled_checked g.C.Ceremony.ack_of g.C.Ceremony.dealing_of c.args.player.now c.handle.new.self c.args.store.now c.handle.new.store _ _ c.args.epoch c.args.heard.now.dealer c.in_ok-public.public c.args.heard.now.private c.handle.result c.handle.ensures.handled
