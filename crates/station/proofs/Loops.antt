-- The bench's loops: what holds after i stations, and how one more keeps it.
--
--     draws_all, get_d_same                              the draws judged one by one; a list of one thing
--     Looked: looked_none, looked_more, looked_idle     the look: the stations' states, the line, and what each sent
--             looked_bad, looked_fine, looked_line
--     Moving: moving_none, moving_more, moving_on       the move: the stations after the line's half-cycle, and the DONE marks
--             moving_same, all_moved, all_marked
use mathlib.Core.Path.{◌≡◌, refl, sym, ap, ap₂, subst, ◌∙◌}
use mathlib.Core.Bool.{Bool, true, false, ◌&&◌}
use mathlib.Core.List.{List, [], ◌∷◌, ◌++◌, map, map-append, zip_with}
use Prim.Native.Nat.{ℕ, zero, suc, ◌-◌, ◌≤◌, ◌<◌, max}
use native.Mathlib.Nat.{zero-max, max-zero, zero-add, suc-sub-suc, zero-sub, sub-zero, le_refl}
use native.Mathlib.Omega.{arith}
use lib.ListN.{length, take, drop, get_or, set, replicate, length-set, length-replicate, length-drop}
use lib.Seq.{sets, sets-eq, slice, slice-cons, slice_empty, take-suc, take-suc-set, get_or-set_other, set-get_or, length-take-le}
use Rattle.std.specs.List.{list_all}
use Rattle.station.specs.declared.Station.{Station}
use Rattle.station.specs.declared.Turn.{Turn}
use Rattle.station.specs.Stations.{station_ok, draw_ok, sends_of, turn_of, is_done}
use Rattle.station.proofs.SendLaws.{sends_below}
use Rattle.station.specs.Benches.{line_of, move_all, done_all, stations_ok, draws_ok}
use Rattle.station.proofs.SlotLaws.{length_moved, length-done}

-- ---- the draws

pub draws_all : (draws : List ℕ) → draws_ok draws ≡ list_all draw_ok draws
unfolding draws_ok
draws_all [] = refl
draws_all (d ∷ draws) = ap (λ (b : Bool). draw_ok d && b) (draws_all draws)

-- ---- the look

-- of a list of one thing each element is it
pub get_d_same : {A : Type 0} (n k : ℕ) (a : A) → get_or (replicate n a) k a ≡ a
get_d_same zero k a = refl
get_d_same (suc n) zero a = refl
get_d_same (suc n) (suc k) a = get_d_same n k a

pub record Looked (n : ℕ) (slots : List Station) (line : ℕ) (sent : List ℕ) (i : ℕ) : Type 0 where
  pub within : i ≤ n
  pub fine : stations_ok (slice i n slots) ≡ stations_ok (take n slots)
  pub loud : max line (line_of (slice i n slots)) ≡ line_of (take n slots)
  pub half : line ≤ 1
  pub kept : take i sent ≡ map sends_of (take i slots)
  pub clear : (k : ℕ) → i ≤ k → get_or sent k 0 ≡ 0
  pub long : length sent ≡ length slots

pub looked_none : (n : ℕ) (slots : List Station) → Looked n slots 0 (replicate (length slots) 0) 0
looked_none n slots =
    record {
      within = omega arith;
      fine = refl;
      loud = zero-max (line_of (take n slots));
      half = omega arith;
      kept = refl;
      clear = λ k h. get_d_same (length slots) k 0;
      long = length-replicate (length slots) 0;
    }

module _ {n : ℕ} {slots : List Station} {line : ℕ} {sent : List ℕ} {i : ℕ} (few : n ≤ length slots) (h : i < n) (e : Station)
    (r : Looked n slots line sent i) where
  next : slice i n slots ≡ get_or slots i e ∷ slice (suc i) n slots
  next = slice-cons i n slots e h few

  pub looked_bad : station_ok (get_or slots i e) ≡ false → stations_ok (take n slots) ≡ false
  unfolding stations_ok
  looked_bad bad = sym r.fine ∙ rw (next, bad)

  pub looked_more : station_ok (get_or slots i e) ≡ true → (half : ℕ) → sends_of (get_or slots i e) ≡ half → Looked n slots (max line half) (set sent i half) (suc i)
  unfolding stations_ok line_of
  looked_more ok half is =
      let s = get_or slots i e in
      let below : half ≤ 1 = subst (λ (x : ℕ). x ≤ 1) is (sends_below s) in
      let ahead : stations_ok (slice i n slots) ≡ stations_ok (slice (suc i) n slots) = rw (next, ok) in
      let step : line_of (slice i n slots) ≡ max (sends_of s) (line_of (slice (suc i) n slots)) = rw next in
      record {
        within = h;
        fine = sym ahead ∙ r.fine;
        loud = omega (arith, r.loud);
        half = omega (arith, r.half);
        kept =
            take-suc-set sent i half (omega (arith, r.long))
            ∙ ap₂ (λ (xs : List ℕ) (x : ℕ). xs ++ (x ∷ [])) r.kept (sym is)
            ∙ sym (map-append sends_of (take i slots) (s ∷ []))
            ∙ ap (map sends_of) (sym (take-suc slots i e (omega arith)));
        clear = λ k l. get_or-set_other sent i k half 0 (λ q. omega arith) ∙ r.clear k (omega arith);
        long = length-set sent i half ∙ r.long;
      }

  -- a station that sends nothing leaves the line and what was kept as they are
  pub looked_idle : station_ok (get_or slots i e) ≡ true → sends_of (get_or slots i e) ≡ 0 → Looked n slots line sent (suc i)
  looked_idle ok is =
      let same : set sent i 0 ≡ sent = ap (set sent i) (sym (r.clear i (le_refl i))) ∙ set-get_or sent i 0 in
      subst (λ (l : ℕ). Looked n slots l sent (suc i)) (max-zero line)
      (subst (λ (xs : List ℕ). Looked n slots (max line 0) xs (suc i)) same (looked_more ok 0 is))

module _ {n : ℕ} {slots : List Station} {line : ℕ} {sent : List ℕ} (r : Looked n slots line sent n) where
  pub looked_fine : stations_ok (take n slots) ≡ true
  unfolding stations_ok
  looked_fine = sym r.fine ∙ rw (slice_empty n slots)

  pub looked_line : line ≡ line_of (take n slots)
  unfolding line_of
  looked_line = sym (max-zero line) ∙ ap (λ (l : ℕ). max line l) (sym (ap line_of (slice_empty n slots))) ∙ r.loud

-- ---- the move

pub record Moving (n line : ℕ) (slots : List Station) (draws : List ℕ) (after : List Station) (done : List Bool) (i : ℕ) : Type 0 where
  pub within : i ≤ n
  pub moved : sets after i (move_all line (slice i n slots) (slice i n draws)) ≡ move_all line (take n slots) (take n draws) ++ drop n slots
  pub marked : sets done i (done_all line (slice i n slots) (slice i n draws))
      ≡ done_all line (take n slots) (take n draws) ++ replicate (length (drop n slots)) false
  pub rest : (k : ℕ) (d : Station) → i ≤ k → get_or after k d ≡ get_or slots k d
  pub unmarked : (k : ℕ) → i ≤ k → get_or done k false ≡ false
  pub long : length after ≡ length slots
  pub marks : length done ≡ length slots

-- a run of stores from the front
front : {A : Type 0} (l vs : List A) (n : ℕ) → length vs ≡ n → n ≤ length l → sets l 0 vs ≡ vs ++ drop n l
front l vs n e h =
    sets-eq vs l 0 (omega arith)
    ∙ ap (λ (k : ℕ). vs ++ drop k l) (zero-add (length vs) ∙ e)

drop-replicate : {A : Type 0} (n k : ℕ) (a : A) → drop k (replicate n a) ≡ replicate (n - k) a
drop-replicate n zero a = ap (λ (m : ℕ). replicate m a) (sym (sub-zero n))
drop-replicate zero (suc k) a = ap (λ (m : ℕ). replicate m a) (sym (zero-sub (suc k)))
drop-replicate (suc n) (suc k) a = drop-replicate n k a ∙ ap (λ (m : ℕ). replicate m a) (sym (suc-sub-suc n k))

module _ {n line : ℕ} {slots : List Station} {draws : List ℕ} (few : n ≤ length slots) (enough : n ≤ length draws) where
  pub moving_none : Moving n line slots draws slots (replicate (length slots) false) 0
  moving_none =
      let first : length (take n slots) ≡ n = length-take-le n slots few in
      let each : length (take n draws) ≡ length (take n slots) = length-take-le n draws enough ∙ sym first in
      let marks : List Bool = done_all line (take n slots) (take n draws) in
      let many : length marks ≡ n = length-done line (take n slots) (take n draws) each ∙ first in
      let all : length (replicate (length slots) false) ≡ length slots = length-replicate (length slots) false in
      record {
        within = omega arith;
        moved = front slots (move_all line (take n slots) (take n draws)) n (length_moved line (take n slots) (take n draws) each ∙ first) few;
        marked =
            front (replicate (length slots) false) marks n many (omega arith)
            ∙ ap (λ (xs : List Bool). marks ++ xs) (drop-replicate (length slots) n false ∙ ap (λ (k : ℕ). replicate k false) (sym (length-drop n slots)));
        rest = λ k d h. refl;
        unmarked = λ k h. get_d_same (length slots) k false;
        long = refl;
        marks = all;
      }

  module _ {after : List Station} {done : List Bool} {i : ℕ} (h : i < n) (e : Station)
      (r : Moving n line slots draws after done i) where
    -- what one half-cycle makes of the next station, which is still as it was
    abbrev turn_next : Turn
    turn_next = turn_of (get_or after i e) line (get_or draws i 0)

    pub as_it_was : get_or after i e ≡ get_or slots i e
    as_it_was = r.rest i e (le_refl i)

    pub moving_more : (s : Station) (mark : Bool) → turn_next.next ≡ s → is_done turn_next.answer ≡ mark
        → Moving n line slots draws (set after i s) (set done i mark) (suc i)
    unfolding move_all done_all zip_with
    moving_more s mark is says =
        let station = slice-cons i n slots e h few in
        let draw = slice-cons i n draws 0 h enough in
        let moved = move_all line (slice (suc i) n slots) (slice (suc i) n draws) in
        let marked = done_all line (slice (suc i) n slots) (slice (suc i) n draws) in
        let one : sets after i (move_all line (slice i n slots) (slice i n draws)) ≡ sets (set after i s) (suc i) moved =
        rw (station, draw, ← as_it_was, is) in
        let mark-one : sets done i (done_all line (slice i n slots) (slice i n draws)) ≡ sets (set done i mark) (suc i) marked =
        rw (station, draw, ← as_it_was, says) in
        record {
          within = h;
          moved = sym one ∙ r.moved;
          marked = sym mark-one ∙ r.marked;
          rest = λ k d l. get_or-set_other after i k s d (λ q. omega arith) ∙ r.rest k d (omega arith);
          unmarked = λ k l. get_or-set_other done i k mark false (λ q. omega arith) ∙ r.unmarked k (omega arith);
          long = length-set after i s ∙ r.long;
          marks = length-set done i mark ∙ r.marks;
        }

    -- a station that is not DONE needs no mark
    pub moving_on : (s : Station) → turn_next.next ≡ s → is_done turn_next.answer ≡ false → Moving n line slots draws (set after i s) done (suc i)
    moving_on s is says =
        let same : set done i false ≡ done = ap (set done i) (sym (r.unmarked i (le_refl i))) ∙ set-get_or done i false in
        subst (λ (xs : List Bool). Moving n line slots draws (set after i s) xs (suc i)) same (moving_more s false is says)

    -- and one that stays needs no store
    pub moving_same : turn_next.next ≡ get_or after i e → is_done turn_next.answer ≡ false → Moving n line slots draws after done (suc i)
    moving_same is says =
        subst (λ (xs : List Station). Moving n line slots draws xs done (suc i)) (set-get_or after i e) (moving_on (get_or after i e) is says)

module _ {n line : ℕ} {slots : List Station} {draws : List ℕ} {after : List Station} {done : List Bool} (r : Moving n line slots draws after done n) where
  pub all_moved : after ≡ move_all line (take n slots) (take n draws) ++ drop n slots
  unfolding move_all zip_with
  all_moved = rw (slice_empty n slots) at r.moved

  pub all_marked : done ≡ done_all line (take n slots) (take n draws) ++ replicate (length (drop n slots)) false
  unfolding done_all zip_with
  all_marked = rw (slice_empty n slots) at r.marked
