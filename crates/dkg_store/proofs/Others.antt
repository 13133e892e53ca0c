-- What an append does to the other files.
use Rattle.std.proofs.Common.{inl, refl}
use Rattle.dkg_values.specs.declared.name.Name.TheVariants.{Segment}
use Rattle.dkg_journal.specs.Names.{Files}
use Rattle.dkg_journal.specs.Disk.{ImagesFollow, SameElse}
use Rattle.dkg_journal.specs.Records.{SectionEntry}
use Rattle.dkg_journal.specs.Steps.{MayAdd}

-- it leaves them as they were
pub others_of : (e : SectionEntry) (image next : Files → Type 0) → ImagesFollow (MayAdd e) image next → ImagesFollow (SameElse (Segment e.0)) image next
others_of e image next follows = record { each = λ c here. let from = follows.each c here in (from.0, from.1, from.2.others) }

-- nothing was called
pub not_added : (e : SectionEntry) (image : Files → Type 0) → ImagesFollow (MayAdd e) image image
not_added e image = record { each = λ c here. (c, here, record { others = λ name apart. refl; either = inl refl }) }
