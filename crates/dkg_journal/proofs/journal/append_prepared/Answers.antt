use Rattle.std.proofs.Common.{◌≡◌, ◌+◌, List, [], ◌∷◌, length, sym, ap, subst, arith}
use Rattle.std.proofs.lemmas.Result.{err_from_is_err_and}
use Rattle.dkg_journal.specs.Disk.{Allowed}
use Rattle.dkg_journal.specs.Steps.{place_or_start, make_calls, record_calls}
use Rattle.dkg_journal.specs.declared.disk.Op.{Op}
use Rattle.dkg_journal.specs.declared.disk.Op.TheVariants.{WriteAt, Sync}
use Rattle.dkg_values.specs.declared.name.Name.{Name}
use Rattle.dkg_values.specs.declared.name.Name.TheVariants.{Segment}
use Rattle.dkg_journal.proofs.Shut.{written_behind}
use Rattle.dkg_journal.proofs.Steps.{then_all, then_ran, ran_more, ran_same, run_err, run_ok, all_same}
use Rattle.dkg_journal.proofs.Append.{allowed, room, staged_shut, keeps_behind, keeps_may_add, keeps_keeps, keeps_parted, into_parted, gate_images, gate_adds, gate_open, grows_err, grows_ok}
use Rattle.dkg_journal.proofs.Standing.{does_err, does_ok, into_has, tries_append, tries_make, tried_append, finished_append}
use Rattle.dkg_journal.proofs.Unbroken.{behind_unbroken, gate_unbroken}
use Rattle.dkg_journal.proofs.journal.append_prepared.Goals as goal

pub write_segment-requires : goal.write_segment-requires
write_segment-requires g c = λ tells. subst (λ (op : Op). Allowed (g.D.Disk.files c.make_file.new.disk) op) (sym c.requires.prepared.write) (
    let at = c.in_ok-make_file.ensures.open tells (c.requires.next tells) in
    allowed (Segment c.args.section) at.bytes (place_or_start c.args.place + 1) _ _ at.firm (room at.bs (place_or_start c.args.place) at.bytes at.shut))

pub write_segment-requires-2 : goal.write_segment-requires-2
write_segment-requires-2 g c = λ tells. subst (λ (op : Op). Allowed (g.D.Disk.files c.write_segment.new.disk) op) (sym c.requires.prepared.gate) (
    let at = c.in_ok-make_file.ensures.open tells (c.requires.next tells) in
    let firm = c.in_ok-write_segment.ensures.done tells at.bytes _ _ c.requires.prepared.write at.firm in
    let staged = written_behind 0 at.bs c.args.body.now (place_or_start c.args.place) at.bytes at.shut (omega arith, c.requires.prepared.short) in
    let wide = room at.bs (place_or_start c.args.place) _ (staged_shut _ _ _ _ staged) in
    allowed (Segment c.args.section) _ (place_or_start c.args.place) _ _ firm (omega (arith, wide)))

pub returns-in_err-make_file-clause-grows : goal.returns-in_err-make_file-clause-grows
returns-in_err-make_file-clause-grows g c =
    let p = err_from_is_err_and c.from_residual.result c.from_residual.ensures.1 in
    λ tells.
    grows_err (c.args.section, c.args.body.now) c.from_residual.result p.0 _ _ p.1 (keeps_may_add (c.args.section, c.args.body.now) _ _ (c.make_file.ensures.images (c.requires.next tells)))

pub returns-in_err-write_segment-clause-grows : goal.returns-in_err-write_segment-clause-grows
returns-in_err-write_segment-clause-grows g c =
    let p = err_from_is_err_and c.from_residual-in_err-write_segment.result c.from_residual-in_err-write_segment.ensures.1 in
    λ tells.
    let next = c.requires.next tells in
    let at = c.in_ok-make_file.ensures.open tells next in
    let kept = c.make_file.ensures.images next in
    let torn = c.write_segment.ensures.images at.bytes _ _ c.requires.prepared.write at.firm in
    grows_err (c.args.section, c.args.body.now) c.from_residual-in_err-write_segment.result p.0 _ _ p.1 (keeps_may_add (c.args.section, c.args.body.now) _ _ (keeps_keeps (Segment c.args.section) _ _ _ kept (keeps_behind c.args.section _ _ _ _ _ at (keeps_parted c.args.section _ _ next.no_flat kept) torn)))

pub returns-in_err-write_segment-2-clause-grows : goal.returns-in_err-write_segment-2-clause-grows
returns-in_err-write_segment-2-clause-grows g c =
    let p = err_from_is_err_and c.from_residual-in_err-write_segment-2.result c.from_residual-in_err-write_segment-2.ensures.1 in
    λ tells.
    let next = c.requires.next tells in
    let at = c.in_ok-make_file.ensures.open tells next in
    let torn = c.write_segment.ensures.images at.bytes _ _ c.requires.prepared.write at.firm in
    let firm = c.in_ok-write_segment.ensures.done tells at.bytes _ _ c.requires.prepared.write at.firm in
    grows_err (c.args.section, c.args.body.now) c.from_residual-in_err-write_segment-2.result p.0 _ _ p.1 (gate_images (place_or_start c.args.place) c.args.section c.args.body.now c.requires.prepared.short _ _ _ _ _ _ at next.no_flat (c.make_file.ensures.images next) torn firm (c.write_segment-2.ensures.images _ _ _ c.requires.prepared.gate firm))

pub returns-clause-grows : goal.returns-clause-grows
returns-clause-grows g c = λ tells.
    let next = c.requires.next tells in
    let at = c.in_ok-make_file.ensures.open tells next in
    let torn = c.write_segment.ensures.images at.bytes _ _ c.requires.prepared.write at.firm in
    let firm = c.in_ok-write_segment.ensures.done tells at.bytes _ _ c.requires.prepared.write at.firm in
    let done = c.in_ok-write_segment-2.ensures.done tells _ _ _ c.requires.prepared.gate firm in
    grows_ok (c.args.section, c.args.body.now) tt _ _
    (gate_images (place_or_start c.args.place) c.args.section c.args.body.now c.requires.prepared.short _ _ _ _ _ _ at next.no_flat (c.make_file.ensures.images next) torn firm (c.write_segment-2.ensures.images _ _ _ c.requires.prepared.gate firm))
    (gate_adds (place_or_start c.args.place) c.args.section c.args.body.now c.requires.prepared.short _ _ _ _ _ _ at next.no_flat _ (c.make_file.ensures.images next) torn firm done (c.write_segment-2.ensures.images _ _ _ c.requires.prepared.gate firm))

pub returns-clause-open : goal.returns-clause-open
returns-clause-open g c = λ tells.
    let at = c.in_ok-make_file.ensures.open tells (c.requires.next tells) in
    let firm = c.in_ok-write_segment.ensures.done tells at.bytes _ _ c.requires.prepared.write at.firm in
    let done = c.in_ok-write_segment-2.ensures.done tells _ _ _ c.requires.prepared.gate firm in
    gate_open (place_or_start c.args.place) c.args.section c.args.body.now c.requires.prepared.short _ _ _ _ at done

-- the list of a call, and of the sync behind it
pub listed : (name : Name) (w v : Op) → w ≡ v → ◌≡◌ {A = List Op} (w ∷ Sync name ∷ []) (v ∷ Sync name ∷ [])
listed name w v same = ap (λ (op : Op). op ∷ Sync name ∷ []) same

pub returns-in_err-make_file-clause-calls : goal.returns-in_err-make_file-clause-calls
returns-in_err-make_file-clause-calls g c =
    let p = err_from_is_err_and c.from_residual.result c.from_residual.ensures.1 in
    run_err g.D.Disk.made c.from_residual.result _ _ _ _ _ p.0 p.1 (ran_more g.D.Disk.made _ _ _ _ (make_calls c.args.section c.args.place) (record_calls (place_or_start c.args.place) (c.args.section, c.args.body.now)) c.make_file.ensures.calls.ran)

pub returns-in_err-write_segment-clause-calls : goal.returns-in_err-write_segment-clause-calls
returns-in_err-write_segment-clause-calls g c =
    let p = err_from_is_err_and c.from_residual-in_err-write_segment.result c.from_residual-in_err-write_segment.ensures.1 in
    let write = ran_same g.D.Disk.made _ _ _ _ _ _ (listed (Segment c.args.section) _ _ c.requires.prepared.write) c.write_segment.ensures.calls.ran in
    run_err g.D.Disk.made c.from_residual-in_err-write_segment.result _ _ _ _ _ p.0 p.1 (then_ran g.D.Disk.made g.met.D.Disk.made_more _ _ _ _ _ _ (make_calls c.args.section c.args.place) _ c.in_ok-make_file.ensures.calls.all (ran_more g.D.Disk.made _ _ _ _ _ (WriteAt (Segment c.args.section) (place_or_start c.args.place) (1 ∷ []) ∷ Sync (Segment c.args.section) ∷ []) write))

pub returns-in_err-write_segment-2-clause-calls : goal.returns-in_err-write_segment-2-clause-calls
returns-in_err-write_segment-2-clause-calls g c =
    let p = err_from_is_err_and c.from_residual-in_err-write_segment-2.result c.from_residual-in_err-write_segment-2.ensures.1 in
    let write = all_same g.D.Disk.made _ _ _ _ _ _ (listed (Segment c.args.section) _ _ c.requires.prepared.write) c.in_ok-write_segment.ensures.calls.all in
    let gate = ran_same g.D.Disk.made _ _ _ _ _ _ (listed (Segment c.args.section) _ _ c.requires.prepared.gate) c.write_segment-2.ensures.calls.ran in
    run_err g.D.Disk.made c.from_residual-in_err-write_segment-2.result _ _ _ _ _ p.0 p.1 (then_ran g.D.Disk.made g.met.D.Disk.made_more _ _ _ _ _ _ (make_calls c.args.section c.args.place) _ c.in_ok-make_file.ensures.calls.all (then_ran g.D.Disk.made g.met.D.Disk.made_more _ _ _ _ _ _ _ _ write gate))

pub returns-clause-calls : goal.returns-clause-calls
returns-clause-calls g c =
    let write = all_same g.D.Disk.made _ _ _ _ _ _ (listed (Segment c.args.section) _ _ c.requires.prepared.write) c.in_ok-write_segment.ensures.calls.all in
    let gate = all_same g.D.Disk.made _ _ _ _ _ _ (listed (Segment c.args.section) _ _ c.requires.prepared.gate) c.in_ok-write_segment-2.ensures.calls.all in
    run_ok g.D.Disk.made _ _ _ _ _ tt (then_all g.D.Disk.made g.met.D.Disk.made_more _ _ _ _ _ _ (make_calls c.args.section c.args.place) _ c.in_ok-make_file.ensures.calls.all (then_all g.D.Disk.made g.met.D.Disk.made_more _ _ _ _ _ _ _ _ write gate))

pub returns-in_err-make_file-clause-does : goal.returns-in_err-make_file-clause-does
returns-in_err-make_file-clause-does g c =
    let p = err_from_is_err_and c.from_residual.result c.from_residual.ensures.1 in
    λ tells. does_err _ _ _ c.from_residual.result p.0 _ _ _ _ p.1 (λ lands.
    let next = c.requires.next tells in
    tried_append g.D.Disk.made _ _ _ _ c.args.place (c.args.section, c.args.body.now) _ _ _ next (returns-in_err-make_file-clause-calls g c).ran
    (tries_make (c.args.section, c.args.body.now) c.args.place _ _ _ next lands (c.make_file.ensures.images next) (λ p is f now. subst (λ d. g.D.Disk.image d f) (c.make_file.ensures.same p is) now)))

pub returns-in_err-write_segment-clause-does : goal.returns-in_err-write_segment-clause-does
returns-in_err-write_segment-clause-does g c =
    let p = err_from_is_err_and c.from_residual-in_err-write_segment.result c.from_residual-in_err-write_segment.ensures.1 in
    λ tells. does_err _ _ _ c.from_residual-in_err-write_segment.result p.0 _ _ _ _ p.1 (λ lands.
    let next = c.requires.next tells in
    let at = c.in_ok-make_file.ensures.open tells next in
    let torn = c.write_segment.ensures.images at.bytes _ _ c.requires.prepared.write at.firm in
    tried_append g.D.Disk.made _ _ _ _ c.args.place (c.args.section, c.args.body.now) _ _ _ next (returns-in_err-write_segment-clause-calls g c).ran
    (tries_append (c.args.section, c.args.body.now) _ _ _ lands (returns-in_err-write_segment-clause-grows g c tells).may (into_has (Segment c.args.section) _ _ _ torn)))

pub returns-in_err-write_segment-2-clause-does : goal.returns-in_err-write_segment-2-clause-does
returns-in_err-write_segment-2-clause-does g c =
    let p = err_from_is_err_and c.from_residual-in_err-write_segment-2.result c.from_residual-in_err-write_segment-2.ensures.1 in
    λ tells. does_err _ _ _ c.from_residual-in_err-write_segment-2.result p.0 _ _ _ _ p.1 (λ lands.
    let next = c.requires.next tells in
    let at = c.in_ok-make_file.ensures.open tells next in
    let firm = c.in_ok-write_segment.ensures.done tells at.bytes _ _ c.requires.prepared.write at.firm in
    tried_append g.D.Disk.made _ _ _ _ c.args.place (c.args.section, c.args.body.now) _ _ _ next (returns-in_err-write_segment-2-clause-calls g c).ran
    (tries_append (c.args.section, c.args.body.now) _ _ _ lands (returns-in_err-write_segment-2-clause-grows g c tells).may (into_has (Segment c.args.section) _ _ _ (c.write_segment-2.ensures.images _ _ _ c.requires.prepared.gate firm))))

pub returns-clause-does : goal.returns-clause-does
returns-clause-does g c = λ tells. does_ok _ _ _ tt _ _ _ _
    (λ lands.
    let next = c.requires.next tells in
    let at = c.in_ok-make_file.ensures.open tells next in
    let firm = c.in_ok-write_segment.ensures.done tells at.bytes _ _ c.requires.prepared.write at.firm in
    tried_append g.D.Disk.made _ _ _ _ c.args.place (c.args.section, c.args.body.now) _ _ _ next (returns-clause-calls g c).ran
    (tries_append (c.args.section, c.args.body.now) _ _ _ lands (returns-clause-grows g c tells).may (into_has (Segment c.args.section) _ _ _ (c.write_segment-2.ensures.images _ _ _ c.requires.prepared.gate firm))))
    (λ lands.
    finished_append g.D.Disk.made _ _ _ _ c.args.place (place_or_start c.args.place + 5 + length c.args.body.now) (c.args.section, c.args.body.now) _ _ _ _ (c.requires.next tells) lands (returns-clause-open g c tells) (returns-clause-grows g c tells).added (g.met.D.Disk.reads _ tells) (returns-clause-calls g c).all)

pub returns-in_err-make_file-clause-sound : goal.returns-in_err-make_file-clause-sound
returns-in_err-make_file-clause-sound g c = λ tells sound. c.make_file.ensures.sound (c.requires.next tells) sound

pub returns-in_err-write_segment-clause-sound : goal.returns-in_err-write_segment-clause-sound
returns-in_err-write_segment-clause-sound g c = λ tells sound.
    let next = c.requires.next tells in
    let at = c.in_ok-make_file.ensures.open tells next in
    behind_unbroken c.args.section _ _ _ _ _ at (keeps_parted c.args.section _ _ next.no_flat (c.make_file.ensures.images next)) (c.make_file.ensures.sound next sound) (c.write_segment.ensures.images at.bytes _ _ c.requires.prepared.write at.firm)

pub returns-in_err-write_segment-2-clause-sound : goal.returns-in_err-write_segment-2-clause-sound
returns-in_err-write_segment-2-clause-sound g c = λ tells sound.
    let next = c.requires.next tells in
    let at = c.in_ok-make_file.ensures.open tells next in
    let parted = keeps_parted c.args.section _ _ next.no_flat (c.make_file.ensures.images next) in
    let torn = c.write_segment.ensures.images at.bytes _ _ c.requires.prepared.write at.firm in
    let firm = c.in_ok-write_segment.ensures.done tells at.bytes _ _ c.requires.prepared.write at.firm in
    let staged = written_behind 0 at.bs c.args.body.now (place_or_start c.args.place) at.bytes at.shut (omega arith, c.requires.prepared.short) in
    gate_unbroken c.args.section at.bs c.args.body.now _ (place_or_start c.args.place) _ _ staged (into_parted c.args.section _ _ _ parted torn) (behind_unbroken c.args.section _ _ _ _ _ at parted (c.make_file.ensures.sound next sound) torn) (c.write_segment-2.ensures.images _ _ _ c.requires.prepared.gate firm)

pub returns-clause-sound : goal.returns-clause-sound
returns-clause-sound g c = λ tells sound.
    let next = c.requires.next tells in
    let at = c.in_ok-make_file.ensures.open tells next in
    let parted = keeps_parted c.args.section _ _ next.no_flat (c.make_file.ensures.images next) in
    let torn = c.write_segment.ensures.images at.bytes _ _ c.requires.prepared.write at.firm in
    let firm = c.in_ok-write_segment.ensures.done tells at.bytes _ _ c.requires.prepared.write at.firm in
    let staged = written_behind 0 at.bs c.args.body.now (place_or_start c.args.place) at.bytes at.shut (omega arith, c.requires.prepared.short) in
    gate_unbroken c.args.section at.bs c.args.body.now _ (place_or_start c.args.place) _ _ staged (into_parted c.args.section _ _ _ parted torn) (behind_unbroken c.args.section _ _ _ _ _ at parted (c.make_file.ensures.sound next sound) torn) (c.write_segment-2.ensures.images _ _ _ c.requires.prepared.gate firm)
