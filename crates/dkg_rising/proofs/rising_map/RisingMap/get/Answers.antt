use Rattle.std.proofs.Common.{◌≡◌, [], sym, ap, ◌∙◌}
use Rattle.std.specs.BTreeMap.{is_at}
use Rattle.std.specs.FinMap as map
use Rattle.std.specs.Map.{lookup}
use Rattle.std.specs.Ordering.{nat_cmp}
use Rattle.std.proofs.lemmas.List.{nil_from_length}
use Rattle.dkg_rising.proofs.Views.{got_there, got_elsewhere}
use Rattle.dkg_rising.proofs.rising_map.RisingMap.get.Goals as goal

pub index_of-requires : goal.index_of-requires
index_of-requires g c = rw c.deref.ensures.value c.self.invariant

pub returns-in-Ok : goal.returns-in-Ok
returns-in-Ok g c =
    let there = rw c.deref.ensures.value at c.in-Ok.ensures.there in
    sym (got_there c.self.inside.rising.items c.self.inside.others.entries c.self.invariant c.args.number c.in-Ok.at c.index.result.now there c.index.ensures)
    ∙ ap (λ (m : map.FinMap nat_cmp g.row.V.Denot). map.get m c.args.number) c.self.view_is

pub returns-in-Err : goal.returns-in-Err
returns-in-Err g c =
    let gap = rw c.deref.ensures.value at c.in-Err.ensures.absent in
    let none : c.self.inside.others.entries ≡ [] = nil_from_length c.self.inside.others.entries (c.is_empty.ensures.0 c.if-is_empty.true) in
    sym (got_elsewhere c.self.inside.rising.items c.self.inside.others.entries c.args.number c.in-Err.field-0 gap ∙ ap (lookup (is_at (nat_cmp c.args.number))) none)
    ∙ ap (λ (m : map.FinMap nat_cmp g.row.V.Denot). map.get m c.args.number) c.self.view_is

pub returns-in-Err-2 : goal.returns-in-Err-2
returns-in-Err-2 g c =
    let gap = rw c.deref.ensures.value at c.in-Err-2.ensures.absent in
    c.late.ensures ∙ sym (got_elsewhere c.self.inside.rising.items c.self.inside.others.entries c.args.number c.in-Err-2.field-0 gap)
    ∙ ap (λ (m : map.FinMap nat_cmp g.row.V.Denot). map.get m c.args.number) c.self.view_is
