-- Where a receiver that was fresh stands (01, 'The receiver'): what each of its fields is, by the list of all half-cycles that came, oldest first.
-- The theorem: proofs/Standing.antt.
use Rattle.std.specs.Prelude.{ℕ, suc, ◌+◌, ◌-◌, ◌*◌, ◌^◌, ◌≤◌, ◌<◌, List, [], ◌∷◌, ◌++◌, leb, length, take, Option, Some}
use Rattle.ground.specs.Choice.{pick}
use Rattle.message.specs.declared.Message.{Message}
use Rattle.receiver.specs.Receivers.{fresh_receiver, near, far, waiting}
use Rattle.receiver.specs.Hearing.{receiver_after, taken}
use Rattle.receiver.specs.declared.Receiver.{Receiver}
use Rattle.receiver.specs.declared.Event.TheVariants.{Message as Gives}
use Rattle.receiver_laws.specs.Whole.{last_six}
use Rattle.receiver_reading.specs.Reading.{start_mark, pairs, Unfinished, Broke, none, early, late, idle, begun, said, At}

-- `past` after these half-cycles: the last six, and before any came six ones
abbrev pub past_of : List ℕ → ℕ
past_of hs = last_six 63 hs

-- `at` while it hunts, the half-cycle that comes next being s+k: after a late break it waits until s+65 came,
abbrev pub place_late : ℕ → ℕ
place_late k = pick (leb k 65) (far k) 0

-- after an early one until s+25 came, and then as after a late one
abbrev pub place_early : ℕ → ℕ
place_early k = pick (leb k 25) (near k) (place_late k)

-- and by how many half-cycles came
abbrev pub place_of : Broke → ℕ → ℕ
place_of none n = 0
place_of (early s) n = place_early (n - s)
place_of (late s) n = place_late (n - s)

pub data StandsAfter : List ℕ → Receiver → Type 0 where
  -- hunting: it holds its last six half-cycles and what start it waits for, if any
  idles : {hs : List ℕ} {o : Broke} → At (idle o) hs → StandsAfter hs (waiting (past_of hs) (place_of o (length hs)))
  -- awaiting: k half-cycles of the start came since the frame of m, the message just given
  awaits : {hs : List ℕ} {m : Message} (k : ℕ) → At (said (Gives m)) hs → k ≤ 3
      → StandsAfter (hs ++ take k start_mark) (record { past = past_of (hs ++ take k start_mark); at = suc k; bits = 0; given = Some m })
  -- reading: its frame began where hs ends, the n bits of w were read since, and g is the message just given, if any
  reads : {hs : List ℕ} {g : Option Message} (n w : ℕ) → At (begun g) hs → w < 2 ^ n → Unfinished n w
      → StandsAfter (hs ++ pairs n w) (record { past = past_of (hs ++ pairs n w); at = 5 + 2 * n; bits = w; given = g })
  -- halfway: the same, and a pair's first half-cycle x came
  halfway : {hs : List ℕ} {g : Option Message} (n w x : ℕ) → At (begun g) hs → w < 2 ^ n → Unfinished n w → x ≤ 1
      → StandsAfter (hs ++ (pairs n w ++ x ∷ [])) (record { past = past_of (hs ++ (pairs n w ++ x ∷ [])); at = 6 + 2 * n; bits = w; given = g })

-- whatever half-cycles came, refused ones among them
abbrev pub EveryHistoryStands : Type 0
EveryHistoryStands = (hs : List ℕ) → StandsAfter (taken hs) (receiver_after fresh_receiver hs)
