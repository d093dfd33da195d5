-- Reading the mains (01, 'The receiver'): the receiver's paragraph as a grammar of all the half-cycles that came since it was fresh, oldest first.
-- No field of the receiver is named. The waiting after a broken frame is 02's A2. The theorem: proofs/ReadingWhole.antt.
use Rattle.std.specs.Prelude.{ℕ, ◌+◌, ◌-◌, ◌/◌, ◌%◌, ◌^◌, ◌≤◌, ◌<◌, ◌⊎◌, ◌≢◌, ◌↔◌, ◌≡◌, true, List, [], ◌∷◌, ◌++◌, leb, length, get_or, take}
use Rattle.std.specs.Prelude.{Option, Some, None}
use Rattle.ground.specs.Choice.{pick}
use Rattle.ground.specs.declared.Refusal.TheVariants as refusal
use Rattle.message.specs.Messages.{message_ok}
use Rattle.message.specs.Words.{word_of, bit_count}
use Rattle.message.specs.declared.Message.{Message}
use Rattle.burst.specs.Frames.{bits_of, pairs_of, frame_of, burst_of}
use Rattle.receiver.specs.Receivers.{step_of, fresh_receiver}
use Rattle.receiver.specs.Hearing.{receiver_after, taken}
use Rattle.receiver.specs.declared.Event.{Event}
use Rattle.receiver.specs.declared.Event.TheVariants.{Nothing, Message as Gives, Repeat, BrokenPair, BrokenUnsupported, Refused}

-- ---- lists of half-cycles

-- these are the last half-cycles
abbrev pub EndsIn : List ℕ → List ℕ → Type 0
EndsIn xs hs = (before : List ℕ) × (before ++ xs ≡ hs)

-- "the start 1 1 1 0"
abbrev pub start_mark : List ℕ
start_mark = 1 ∷ 1 ∷ 1 ∷ 0 ∷ []

-- "0 0 0 1 1 1 0", what the ordinary hunt looks for
abbrev pub hunted_start : List ℕ
hunted_start = 0 ∷ 0 ∷ 0 ∷ start_mark

-- n bits as pairs, "each bit followed by its complement, highest first"
abbrev pub pairs : ℕ → ℕ → List ℕ
pairs n w = pairs_of (bits_of n w)

-- ---- how a frame begins, and when it is not yet whole

-- what broke before, if it is of account: "a frame whose start began at half-cycle s", counted from 0, which broke "in the first nine pairs" or later
pub data Broke : Type 0 where
  none : Broke
  early : ℕ → Broke
  late : ℕ → Broke

-- it broke after n whole pairs
abbrev pub broke_at : ℕ → ℕ → Broke
broke_at s n = pick (leb n 8) (early s) (late s)

-- "a start 1110 at" half-cycle n: it has just come
abbrev pub StartAt : ℕ → List ℕ → Type 0
StartAt n hs = EndsIn start_mark hs × (length hs ≡ n + 4)

-- "Hunting: a frame begins after the last seven half-cycles received were 0 0 0 1 1 1 0, earlier frames' half-cycles included." And "after BROKEN 10 in
-- a frame whose start began at half-cycle s, a start 1110 at s+22 is also accepted if the break came in the first nine pairs, and one at s+62 if not, or
-- if s+22 did not hold one": had it held one, a frame would have begun there.
abbrev pub Begins : Broke → List ℕ → Type 0
Begins none hs = EndsIn hunted_start hs
Begins (early s) hs = EndsIn hunted_start hs ⊎ (StartAt (s + 22) hs ⊎ StartAt (s + 62) hs)
Begins (late s) hs = EndsIn hunted_start hs ⊎ StartAt (s + 62) hs

-- after the n bits of w more pairs follow: fewer than nine came, or fewer than 29 of which the first nine have "code 7 with function bit 1"
abbrev pub Unfinished : ℕ → ℕ → Type 0
Unfinished n w = (n ≤ 8) ⊎ ((9 ≤ n) × (n ≤ 28) × (w / 2 ^ (n - 9) % 32 ≡ 15))

-- nine bits with "code 10, 11 or 12 with function bit 1"
pub record NoSuchCode (w : ℕ) : Type 0 where
  pub nine : w < 2 ^ 9
  pub function : w % 2 ≡ 1
  pub low : 10 ≤ w / 2 % 16
  pub high : w / 2 % 16 ≤ 12

-- ---- what ends with the last half-cycle

pub data Mark : Type 0 where
  -- nothing: no frame is read and none awaited. What broke is kept with it
  idle : Broke → Mark
  -- the start of a frame: directly after one that gave the message, or not
  begun : Option Message → Mark
  -- a frame whose start began at half-cycle s: it broke after n whole pairs
  broke : (s n : ℕ) → Mark
  -- what is said there
  said : Event → Mark

-- REPEAT "and hunting follows"; BROKEN 11, "then hunting"
abbrev pub Final : Event → Type 0
Final Nothing = ⊥
Final (Gives m) = ⊥
Final Repeat = Unit {0}
Final BrokenPair = ⊥
Final BrokenUnsupported = Unit {0}
Final (Refused why) = ⊥

pub data At : Mark → List ℕ → Type 0 where
  -- "The fresh receiver is hunting and has received no half-cycle."
  fresh : At (idle none) []
  -- "The ordinary hunt runs on" where no frame begins
  hunts : {hs : List ℕ} {o : Broke} (h : ℕ) → At (idle o) hs → h ≤ 1 → (Begins o (hs ++ h ∷ []) → ⊥) → At (idle o) (hs ++ h ∷ [])
  -- after a message, "at the first that differs it hunts, saying nothing"
  lapses : {hs : List ℕ} {m : Message} (k h : ℕ) → At (said (Gives m)) hs → k ≤ 3 → h ≤ 1 → h ≢ get_or start_mark k 0
      → At (idle none) (hs ++ (take k start_mark ++ h ∷ []))
  follows : {hs : List ℕ} {e : Event} → Final e → At (said e) hs → At (idle none) hs
  -- after BROKEN 10, "and hunting resumes"
  resumes : {hs : List ℕ} {s n : ℕ} → At (broke s n) hs → At (idle (broke_at s n)) hs
  -- a frame begins in the hunt, which "ends the waiting"
  hunted : {hs : List ℕ} {o : Broke} (h : ℕ) → At (idle o) hs → Begins o (hs ++ h ∷ []) → At (begun None) (hs ++ h ∷ [])
  -- "The next four half-cycles must be 1 1 1 0 .. If they match, a frame is read"
  awaited : {hs : List ℕ} {m : Message} → At (said (Gives m)) hs → At (begun (Some m)) (hs ++ start_mark)
  -- "A complete frame gives MESSAGE", and of an awaited one that is "different, it gives MESSAGE"
  message : {hs : List ℕ} {g : Option Message} (m : Message) → At (begun g) hs → message_ok m ≡ true → g ≢ Some m
      → At (said (Gives m)) (hs ++ pairs (bit_count m) (word_of m))
  -- "equal to the one just given, it gives REPEAT"
  repeated : {hs : List ℕ} {m : Message} → At (begun (Some m)) hs → At (said Repeat) (hs ++ pairs (bit_count m) (word_of m))
  -- "An equal pair" after n whole ones; the frame's start is the last four of hs
  equal : {hs : List ℕ} {g : Option Message} (n w x : ℕ) → At (begun g) hs → w < 2 ^ n → Unfinished n w → x ≤ 1
      → At (broke (length hs - 4) n) (hs ++ (pairs n w ++ x ∷ x ∷ []))
  -- "gives BROKEN 10 at its second half-cycle"
  broken : {hs : List ℕ} {s n : ℕ} → At (broke s n) hs → At (said BrokenPair) hs
  -- "A ninth pair that completes code 10, 11 or 12 with function bit 1 gives BROKEN 11"
  unsupported : {hs : List ℕ} {g : Option Message} (w : ℕ) → At (begun g) hs → NoSuchCode w → At (said BrokenUnsupported) (hs ++ pairs 9 w)

-- ---- what is said

-- by a receiver that was fresh, of h after hs
abbrev pub heard_at : List ℕ → ℕ → Event
heard_at hs h = (step_of (receiver_after fresh_receiver hs) h).event

-- "A complete frame gives MESSAGE": hs ends in a start, and then the pairs of m came
pub record FrameEnds (m : Message) (ks : List ℕ) : Type 0 where
  pub valid : message_ok m ≡ true
  pub hs : List ℕ
  -- the message given directly before that start, if any
  pub given : Option Message
  pub starts : At (begun given) hs
  -- "different, it gives MESSAGE"
  pub different : given ≢ Some m
  pub whole : hs ++ pairs (bit_count m) (word_of m) ≡ ks

-- exactly what ends with the last of these half-cycles is said
pub record SaysWhatEnds (ks : List ℕ) (heard : Event) : Type 0 where
  -- MESSAGE, REPEAT, BROKEN 10 and 11, each exactly when it ends there
  pub ends : (e : Event) → e ≢ Nothing → (heard ≡ e) ↔ At (said e) ks
  -- "All else gives NOTHING."
  pub silent : (heard ≡ Nothing) ↔ ((e : Event) → At (said e) ks → ⊥)
  -- MESSAGE m exactly when m's frame ends there
  pub complete : (m : Message) → (heard ≡ Gives m) ↔ FrameEnds m ks
  -- no MESSAGE without its frame on the line
  pub framed : (m : Message) → heard ≡ Gives m → (message_ok m ≡ true) × EndsIn (frame_of m) ks
  -- REPEAT exactly when a burst ends there whose first frame gave MESSAGE
  pub twice : (heard ≡ Repeat) ↔ ((m : Message) × (before : List ℕ) × (before ++ burst_of m ≡ ks) × At (said (Gives m)) (before ++ frame_of m))

-- whatever half-cycles came before, refused ones among them
pub record Read : Type 0 where
  pub one : (hs : List ℕ) (h : ℕ) → h ≤ 1 → SaysWhatEnds (taken hs ++ h ∷ []) (heard_at hs h)
  -- HALF: "half-cycle not 0 or 1"
  pub refused : (hs : List ℕ) (h : ℕ) → 1 < h → heard_at hs h ≡ Refused refusal.Half
