use Rattle.std.proofs.Common.{◌≡◌, ◌∙◌, ap, sym, Some}
use Rattle.std.specs.Option.{option_copied_mut}
use Rattle.dkg_journal.specs.Kept.{KeptBytes}
use Rattle.dkg_journal.specs.Table.{Rows, file_at, made_sure}
use Rattle.dkg_journal.proofs.Rows.{found_file, found_some, found_update, missing_file, as_update, none_update}
use Rattle.dkg_journal.proofs.table.Table.settle.Goals.{in-Some, in-None}
use Rattle.dkg_journal.proofs.table.Table.settle.Goals as goal

pub returns : goal.returns
returns c = elim c.match-get_mut.branch [
  | in-Some w ↦
      let rows = c.args.self.now in
      let es = c.self.inside.held.entries in
      let f = w.in-Some.file.now in
      let g = w.settle.new.self in
      let through = c.get_mut.follows.holds g in
      let found = ap option_copied_mut (sym w.in-Some.is) ∙ c.get_mut.ensures.value in
      let new = (c.get_mut.follows.lender g).entries in
      let done = found_update c.args.name es rows f c.self.view_is found g new (through.3 (found_some c.args.name es rows f c.self.view_is found)).0 in
      let is : Some g ≡ made_sure (file_at c.args.name rows) = ap (λ (k : KeptBytes). Some k) w.settle.ensures.settled ∙ ap made_sure (sym (found_file c.args.name es rows f c.self.view_is found)) in
      let update = as_update rows new c.args.name _ _ is done in
      λ q. ap (λ t. file_at q t.held.entries) w.self-inside-is ∙ update q
  | in-None w ↦
      let rows = c.args.self.now in
      let none = missing_file c.args.name c.self.inside.held.entries rows c.self.view_is (ap option_copied_mut (sym w.in-None.is) ∙ c.get_mut.ensures.value) in
      let same = ap (λ t. t.held.entries) w.self-inside-is ∙ ap (λ m. m.entries) c.get_mut.follows.holds-at-none ∙ c.self.view_is in
      λ q. ap (λ (l : Rows). file_at q l) same ∙ none_update rows c.args.name (made_sure (file_at c.args.name rows)) none (ap made_sure none) q
]
