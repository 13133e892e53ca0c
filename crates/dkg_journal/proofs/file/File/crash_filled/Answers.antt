use Rattle.std.proofs.Common.{◌≡◌, ◌-◌, length, ap, sym, ◌∙◌, arith, rules, subst, [], List, ℕ, map, replicate}
use Rattle.dkg_journal.specs.Disk.{written}
use Rattle.dkg_journal.specs.Kept.{KeptBytes, FileImage, Undone, settled, filled, filled_all}
use Rattle.dkg_journal.specs.declared.file.Undo.{Undo}
use Rattle.dkg_journal.proofs.Undone.{undone, length-filled, filled_image}
use Rattle.dkg_journal.proofs.file.File.crash_filled.Goals as goal

-- the list of the writes, as the call saw it
same_undone : (byte : ℕ) (bytes next : List ℕ) (us vs : List Undo) → vs ≡ us → next ≡ filled byte (map undone vs) bytes → next ≡ filled byte (map undone us) bytes
same_undone byte bytes next us vs same is = is ∙ ap (λ (l : List Undo). filled byte (map undone l) bytes) same

cleared : (bytes all : List ℕ) (n : ℕ) (us : List Undone) → bytes ≡ all → n ≡ length bytes → us ≡ [] → ◌≡◌ {A = KeptBytes} (record { bytes = bytes; synced = n; undo = us }) (settled all)
cleared bytes all n us is count none = (λ i. record { bytes = bytes; synced = count i; undo = none i }) ∙ ap settled is

pub overflow_sub-n : goal.overflow_sub-n
overflow_sub-n c =
    let is = same_undone c.args.byte c.self.inside.bytes.items _ c.self.inside.undo.items _ c.deref.ensures.value c.fill_undone.ensures in
    let size = length-filled c.args.byte (map undone c.self.inside.undo.items) c.self.inside.bytes.items c.self.invariant.1 in
    omega (arith, c.len.ensures, ap length is, size, c.self.invariant.0)

pub fill-requires : goal.fill-requires
fill-requires c =
    let is = same_undone c.args.byte c.self.inside.bytes.items _ c.self.inside.undo.items _ c.deref.ensures.value c.fill_undone.ensures in
    let size = length-filled c.args.byte (map undone c.self.inside.undo.items) c.self.inside.bytes.items c.self.invariant.1 in
    omega (arith, c.len.ensures, ap length is, size, c.self.invariant.0)

pub returns-clause-image : goal.returns-clause-image
returns-clause-image c =
    let f : KeptBytes = record { bytes = c.self.inside.bytes.items; synced = c.self.inside.synced; undo = map undone c.self.inside.undo.items } in
    let is = same_undone c.args.byte c.self.inside.bytes.items _ c.self.inside.undo.items _ c.deref.ensures.value c.fill_undone.ensures in
    let size = length-filled c.args.byte (map undone c.self.inside.undo.items) c.self.inside.bytes.items c.self.invariant.1 in
    let long : c.len.result ≡ length c.self.inside.bytes.items = omega (arith, c.len.ensures, ap length is, size) in
    let all : c.fill.new.bytes.items ≡ filled_all c.args.byte f = c.fill.ensures ∙ (λ i. written c.self.inside.synced (replicate (long i - c.self.inside.synced) c.args.byte) (is i)) in
    subst (λ (l : List ℕ). FileImage c.args.self.now l) (sym all) (subst (λ (k : KeptBytes). FileImage k (filled_all c.args.byte f)) c.self.view_is (filled_image c.args.byte f c.self.invariant.0 c.self.invariant.1))

pub returns-clause-settled : goal.returns-clause-settled
returns-clause-settled c =
    let f : KeptBytes = record { bytes = c.self.inside.bytes.items; synced = c.self.inside.synced; undo = map undone c.self.inside.undo.items } in
    let is = same_undone c.args.byte c.self.inside.bytes.items _ c.self.inside.undo.items _ c.deref.ensures.value c.fill_undone.ensures in
    let size = length-filled c.args.byte (map undone c.self.inside.undo.items) c.self.inside.bytes.items c.self.invariant.1 in
    let long : c.len.result ≡ length c.self.inside.bytes.items = omega (arith, c.len.ensures, ap length is, size) in
    let all : c.fill.new.bytes.items ≡ filled_all c.args.byte f = c.fill.ensures ∙ (λ i. written c.self.inside.synced (replicate (long i - c.self.inside.synced) c.args.byte) (is i)) in
    let view : filled_all c.args.byte f ≡ filled_all c.args.byte c.args.self.now = ap (filled_all c.args.byte) c.self.view_is in
    let synced : c.len-self-inside.result ≡ length c.fill.new.bytes.items = search rules in
    let none : map undone c.clear.new.self.items ≡ [] = ap (map undone) c.clear.ensures.items in
    cleared _ _ _ _ (all ∙ view) synced none
