-- An empty disk and an empty secret store are fresh.
use Rattle.std.proofs.Common.{◌≡◌, ℕ, List, [], Option, Some, None, refl, ap, sym, subst, ◌∙◌}
use Rattle.std.specs.FinMap.{empty, get, get-empty, same_map}
use Rattle.std.specs.Int.NonZero.{non_zero_u32_get}
use Rattle.std.specs.Ordering.{nat_cmp}
use Rattle.dkg_values.specs.declared.name.Name.{Name}
use Rattle.dkg_values.specs.declared.name.Name.TheVariants.{Flat}
use Rattle.dkg_journal.specs.Names.{Files, name_cmp}
use Rattle.dkg_journal.specs.Opening.{first_break, broken_rows, broken_with}
use Rattle.dkg_journal.specs.Segments.{segment_rows}
use Rattle.dkg_journal.specs.Records.{SectionEntry, entries}
use Rattle.dkg_journal.specs.Table.{MatchFile, Rows, RowsImage, contents}
use Rattle.dkg_journal.proofs.Steps.{names_total, exact_names}
use Rattle.dkg_store.specs.Corrupt.{AreEvents}
use Rattle.dkg_secrets.specs.Keys.{key_cmp}
use Rattle.dkg_store.specs.Pairs.{IsWhole, Pairs}
use Rattle.dkg_secrets.specs.Secrets.{Secrets}
use Rattle.dkg_text.specs.declared.script.Script.{Script}
use Rattle.dkg_script.specs.Promise.{AreHonestStores}
use Rattle.dkg_script.specs.Setting.{Setting, me, recovered_from, setting_of}
use Rattle.dkg_script.proofs.Worked.{no_pairs, nothing_recovered, nothing_there}
use Rattle.dkg_promises.specs.Complete.{AreValidDevices}
use Rattle.dkg_run.specs.Fresh.{AreFresh}
use Rattle.dkg_script.specs.Valid.{AgreesWith}

none_there : (file : Option (List ℕ)) → MatchFile None file → file ≡ None
none_there None here = refl
none_there (Some bytes) here = absurd here

-- a crash leaves nothing else
only_these : (c : Files) → RowsImage [] c → c ≡ contents []
only_these c here = same_map names_total exact_names c (contents []) (λ name. none_there (get c name) (here.each name) ∙ sym (get-empty name_cmp name))

honest : (script : Script) (held : Secrets) → AreHonestStores (setting_of script (contents []) held) (RowsImage [])
honest script held = record { whole = subst (λ (es : List SectionEntry). IsWhole es held) (sym nothing_there) tt; nothing_loose = record { only = only_these } }

nothing_broken : first_break (contents []) ≡ None
nothing_broken = ap (λ (o : Option (List ℕ)). broken_with o (contents [])) (get-empty name_cmp Flat) ∙ ap (λ (xs : List (Name × List ℕ)). broken_rows (segment_rows xs)) (no_pairs name_cmp)

-- a disk of no files has no entry
none_left : (c : Files) → RowsImage [] c → entries c ≡ []
none_left c here = ap entries (only_these c here) ∙ nothing_there

-- an empty store holds nothing, and with a disk of no files gives nothing back
abbrev none_held : Secrets
none_held = record { shares = empty; seeds = empty; privates = empty }

none_some : {A : Type 0} {x : A} → ◌≡◌ {A = Option A} None (Some x) → ⊥
none_some e = cc

no_dealing : (held : Secrets) (key : ℕ × ℕ) (pair : List ℕ × ℕ) → get (recovered_from (contents []) held) key ≡ Some pair → ⊥
no_dealing held key pair got = none_some (sym (ap (λ (pairs : Pairs). get pairs key) (nothing_recovered held) ∙ get-empty key_cmp key) ∙ got)

agree : (s : Setting) → AgreesWith s (contents []) none_held
agree s = record {
  shares = λ epoch share info got known. absurd (none_some (sym (get-empty nat_cmp epoch) ∙ got));
  dealings = λ epoch dealer public private round small got made. absurd (no_dealing none_held (epoch, dealer) (public, private) got);
  own = λ epoch public private round got made. absurd (no_dealing none_held (epoch, me s) (public, private) got);
}

valid : (script : Script) → AreValidDevices (setting_of script (contents []) none_held) (RowsImage [])
valid script = record {
  stores = honest script none_held;
  fit = record {
    whole = record { each = λ c here. ap first_break (only_these c here) ∙ nothing_broken };
    events = λ c here. subst (AreEvents (non_zero_u32_get script.config.limit)) (sym (none_left c here)) tt;
  };
  agree = agree (setting_of script (contents []) none_held);
}

fresh : AreFresh (contents []) (RowsImage []) none_held
fresh = record { no_file = λ name. get-empty name_cmp name; no_secret = refl; honest = λ script. honest script none_held; valid = valid }

pub empty_fresh : (rows : Rows) (held : Secrets) → rows ≡ [] → held ≡ none_held → AreFresh (contents rows) (RowsImage rows) held
empty_fresh rows held none_there is = subst (λ (h : Secrets). AreFresh (contents rows) (RowsImage rows) h) (sym is) (subst (λ (r : Rows). AreFresh (contents r) (RowsImage r) none_held) (sym none_there) fresh)
