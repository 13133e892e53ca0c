-- What opening keeps, step by step.
use Rattle.std.proofs.Common.{◌≡◌, List, [], ◌∷◌, ap, sym, subst, ◌∙◌, refl}
use Rattle.dkg_journal.specs.Burn.{Burn}
use Rattle.dkg_journal.specs.DeviceCall.{DeviceCall}
use Rattle.dkg_journal.specs.Fuse.{RanAll, burned, spent_once}
use Rattle.std.specs.FinMap.{get}
use Rattle.dkg_values.specs.declared.name.Name.TheVariants.{Plan}
use Rattle.dkg_journal.specs.Names.{Files}
use Rattle.dkg_journal.specs.Disk.{ImagesFollow, Inside}
use Rattle.dkg_journal.specs.Records.{SectionEntry, entries}
use Rattle.dkg_secrets.specs.Secrets.{Secrets}
use Rattle.dkg_store.specs.Pairs.{Pairs, HoldsDealings, IsWhole, recovered}
use Rattle.dkg_journal.specs.Steps.{Keeps}
use Rattle.dkg_journal.specs.declared.disk.Op.TheVariants.{Barrier}
use Rattle.dkg_journal.proofs.Steps.{compose, weaken}

-- a barrier keeps every image
pub barred : (a b : Files → Type 0) → ImagesFollow (Inside Barrier) a b → ImagesFollow Keeps a b
barred a b follows = weaken (Inside Barrier) Keeps a b (λ x y in_image same. record { plan = ap (λ (f : Files). get f Plan) same; same = ap entries same }) follows

pub kept_on : (a b c : Files → Type 0) → ImagesFollow Keeps a b → ImagesFollow Keeps b c → ImagesFollow Keeps a c
kept_on a b c first second = compose Keeps Keeps Keeps a b c (λ x y z one two. record { plan = two.plan ∙ one.plan; same = two.same ∙ one.same }) first second

burned_call : {O : Type 0} (ops : List O) (f : Burn) → (burned ops f).call ≡ f.call
burned_call [] f = refl
burned_call (op ∷ ops) f = burned_call ops (spent_once f)

-- the call that is cut stays the same
pub same_call : {D O : Type 0} {made : D → D → List (DeviceCall O) → Type 0} {old new : D} {f g : Burn} {ops : List O} → RanAll made old new f g ops → f.call ≡ g.call
same_call {f = f} {ops = ops} ran = sym (ap (λ (b : Burn). b.call) ran.fuse ∙ burned_call ops f)

-- Where no entry is lost or added, and the secrets are as they were, what was whole is whole and gives the same.
pub kept_holds : (pairs : Pairs) (image next : Files → Type 0) (held now : Secrets) → ImagesFollow Keeps image next → now ≡ held → HoldsDealings pairs image held → HoldsDealings pairs next now
kept_holds pairs image next held now keeps same holds = subst (HoldsDealings pairs next) (sym same) (record {
  whole = λ c here. let from = keeps.each c here in subst (λ (es : List SectionEntry). IsWhole es held) (sym from.2.same) (holds.whole from.0 from.1);
  gives = λ c here. let from = keeps.each c here in ap (λ (es : List SectionEntry). recovered es held) from.2.same ∙ holds.gives from.0 from.1;
})

-- Where all images stand for the same entries, these are what is held.
pub settled_holds : (es : List SectionEntry) (pairs : Pairs) (next : Files → Type 0) (held now : Secrets) → ((c : Files) → next c → entries c ≡ es) → now ≡ held → pairs ≡ recovered es held → IsWhole es held → HoldsDealings pairs next now
settled_holds es pairs next held now only same is whole = subst (HoldsDealings pairs next) (sym same) (record {
  whole = λ c here. subst (λ (l : List SectionEntry). IsWhole l held) (sym (only c here)) whole;
  gives = λ c here. ap (λ (l : List SectionEntry). recovered l held) (only c here) ∙ sym is;
})
