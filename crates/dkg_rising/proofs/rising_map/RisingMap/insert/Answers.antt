use Rattle.std.proofs.Common.{◌≡◌, length, ap, ◌∙◌, arith}
use Rattle.std.specs.FinMap as map
use Rattle.std.specs.Ordering.{nat_cmp}
use Rattle.dkg_rising.proofs.Indexes.{rises-set, rises_push}
use Rattle.dkg_rising.proofs.Views.{put_there, put_behind, put_elsewhere}
use Rattle.dkg_rising.proofs.rising_map.RisingMap.insert.Goals as goal

pub index_of-requires : goal.index_of-requires
index_of-requires g c = rw c.deref.ensures.value c.self.invariant

-- the number stands in the list
pub invariant_of-self : goal.invariant_of-self
invariant_of-self g c = rises-set c.self.inside.rising.items c.self.invariant c.args.number c.in-Ok.at c.args.value (rw c.deref.ensures.value at c.in-Ok.ensures.there)

pub returns-in-Ok-clause-done : goal.returns-in-Ok-clause-done
returns-in-Ok-clause-done g c =
    put_there c.self.inside.rising.items c.self.inside.others.entries c.self.invariant c.args.number c.in-Ok.at c.args.value (rw c.deref.ensures.value at c.in-Ok.ensures.there)
    ∙ ap (λ (m : map.FinMap nat_cmp g.row.V.Denot). map.insert m c.args.number c.args.value) c.self.view_is

-- it is above all of them
pub invariant_of-self-then-at-len : goal.invariant_of-self-then-at-len
invariant_of-self-then-at-len g c =
    let gap = rw c.deref.ensures.value at c.in-Err.ensures.absent in
    let behind : c.in-Err.at ≡ length c.self.inside.rising.items = omega (arith, c.if-at-len.true, c.len.ensures, c.deref.ensures.len, ap length c.deref.ensures.value) in
    rw c.in_ok-push-in-Err.ensures.items (rises_push c.self.inside.rising.items c.self.invariant c.args.number c.in-Err.at c.args.value gap behind)

pub returns-in_ok-push-in-Err-clause-done : goal.returns-in_ok-push-in-Err-clause-done
returns-in_ok-push-in-Err-clause-done g c =
    rw c.in_ok-push-in-Err.ensures.items (put_behind c.self.inside.rising.items c.self.inside.others.entries c.args.number c.in-Err.at c.args.value (rw c.deref.ensures.value at c.in-Err.ensures.absent))
    ∙ ap (λ (m : map.FinMap nat_cmp g.row.V.Denot). map.insert m c.args.number c.args.value) c.self.view_is

-- it came late
pub returns-in_ok-insert_late-in-Err-2-clause-done : goal.returns-in_ok-insert_late-in-Err-2-clause-done
returns-in_ok-insert_late-in-Err-2-clause-done g c =
    put_elsewhere c.self.inside.rising.items c.self.inside.others.entries c.insert_late.new.others.entries c.args.number c.in-Err-2.field-0 c.args.value
    (rw c.deref.ensures.value at c.in-Err-2.ensures.absent) c.in_ok-insert_late-in-Err-2.ensures.done.0
    ∙ ap (λ (m : map.FinMap nat_cmp g.row.V.Denot). map.insert m c.args.number c.args.value) c.self.view_is
