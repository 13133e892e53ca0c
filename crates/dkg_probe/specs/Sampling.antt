-- The sample of dealers' latest finalizations, of which the highest is chosen.
use Rattle.std.specs.Prelude.{◌≡◌, ℕ, ◌≤◌, ◌==◌, ◌&&◌, ◌||◌, nat_lt, Bool, false, List, [], fold, length, Option, Some, None, is_none, if◌then◌else◌}
use Rattle.std.specs.BTreeMap.{insert_entry, is_at}
use Rattle.std.specs.Map.{lookup, values_of}
use Rattle.std.specs.Ordering.{nat_cmp}
use Rattle.dkg_ceremony.specs.Thresholds.{max_faults_of}
use Rattle.dkg_types.specs.declared.finalization.Finalization.{Finalization}

-- finalizations by peer, the keys rising
abbrev pub Replies : Type 0
Replies = List (ℕ × Finalization)

-- the least epoch of a reply that counts, the replies, and the one that was chosen
pub record Sampled : Type 0 where
  pub minimum : ℕ
  pub replies : Replies
  pub chosen : Option Finalization

abbrev pub new_sample : (minimum : ℕ) → Sampled
new_sample minimum = record { minimum = minimum; replies = []; chosen = None }

abbrev pub reply_at : (peer : ℕ) → Replies → Option Finalization
reply_at peer replies = lookup (is_at (nat_cmp peer)) replies

-- a peer's reply counts where no floor is chosen and none of its replies is held
abbrev pub awaits : Sampled → (peer : ℕ) → Bool
awaits s peer = is_none s.chosen && is_none (reply_at peer s.replies)

abbrev pub sample_recorded : Sampled → (peer : ℕ) → Finalization → Sampled
sample_recorded s peer f = if awaits s peer then record s { replies = insert_entry nat_cmp s.replies peer f } else s

-- by epoch, then by view
abbrev pub is_higher : Finalization → Finalization → Bool
is_higher f g = nat_lt g.epoch f.epoch || ((f.epoch == g.epoch) && nat_lt g.view f.view)

abbrev pub better : Option Finalization → Finalization → Option Finalization
better None f = Some f
better (Some best) f = if is_higher f best then Some f else Some best

-- the highest, and of equally high ones that of the least key
abbrev pub highest : Replies → Option Finalization
highest replies = fold better None (values_of replies)

-- a floor is chosen once there is one reply more than dealers may fail
abbrev pub is_enough : Sampled → (dealers : ℕ) → Bool
is_enough s dealers = is_none s.chosen && nat_lt (max_faults_of dealers) (length s.replies)

abbrev pub floor_of : Sampled → (dealers : ℕ) → Option Finalization
floor_of s dealers = if is_enough s dealers then highest s.replies else None

abbrev pub selected : Sampled → (dealers : ℕ) → Sampled
selected s dealers = if is_enough s dealers then record s { chosen = highest s.replies } else s

abbrev pub sample_forgotten : Sampled → Sampled
sample_forgotten s = new_sample s.minimum

-- It is held, no reply is higher, and of equally high ones it is that of the least key.
pub record IsHighest (replies : Replies) (f : Finalization) : Type 0 where
  pub peer : ℕ
  pub held : reply_at peer replies ≡ Some f
  pub above : (q : ℕ) (g : Finalization) → reply_at q replies ≡ Some g → is_higher g f ≡ false
  pub least : (q : ℕ) (g : Finalization) → reply_at q replies ≡ Some g → is_higher f g ≡ false → peer ≤ q
