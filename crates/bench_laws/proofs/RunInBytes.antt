-- Demand 3 by the bytes of lines and marks: each call's bytes stand at its place, a refused call has 7 and no marks, and a call that is not refused
-- adds its half-cycle and its marks to what demand 3 keeps.
--
--     mask_bit, mask_whole           the marks as bits of two bytes
--     Stepped, stepped               one call of the run: refused with 7, or answered
--     so_far, lines_so_far, byte_at, mark_at_lem     the bytes of a call, and of those up to it
--     halves_kept, marks_counted, heard_so_far   the half-cycles, the marks and the receiver are those that demand 3 keeps
--     unmarked_at, sent_at, heard_at_lem   a call that is refused, and one that marks a station
--     every_press_is_marked          EveryPressIsMarked
use Rattle.std.specs.Prelude.{Result, Ok}
use mathlib.Core.Path.{◌≡◌, refl, sym, ap, ap₂, subst, ◌∙◌}
use mathlib.Core.Logic.{◌⊎◌, inl, inr, ◌↔◌}
use mathlib.Core.Bool.{Bool, true, false, false≢true}
use mathlib.Core.List.{List, [], ◌∷◌, ◌++◌, map-append, flat_map, reverse, reverse-cons, reverse-append, reverse-reverse, append-nil, append_assoc}
use Prim.Native.Nat.{ℕ, zero, suc, ◌+◌, ◌*◌, ◌/◌, ◌%◌, ◌^◌, ◌≤◌, ◌<◌}
use native.Mathlib.Nat.{div-one, le_trans, zero-div}
use native.Mathlib.Decide.{ℕ_discrete}
use native.Mathlib.Omega.{arith}
use borrow.Author.Tests.{le-leb, eq-eqb}
use lib.Dec.{leb}
use lib.Pow.{shr-shr, pow_mono}
use lib.ListN.{length, get_or, take, drop, length-drop, length-map, length-reverse, take-append-drop, get_or-eq_default}
use lib.Seq.{take_at, get_or_at, get_or-append-add, length-take-le}
use Rattle.ground.specs.Choice.{pick}
use Rattle.ground.specs.Refusals.{refusal_number}
use Rattle.ground.specs.declared.Refusal.{Refusal}
use Rattle.ground.proofs.Causes.{some_number}
use Rattle.ground.proofs.Lists.{flat_append}
use Rattle.message.specs.declared.Message.{Message}
use Rattle.burst.specs.Frames.{burst_of, burst_length}
use Rattle.receiver.specs.Receivers.{fresh_receiver, step_of}
use Rattle.receiver.specs.Hearing.{events_of, receiver_after, taken}
use Rattle.receiver.specs.declared.Receiver.{Receiver}
use Rattle.receiver.specs.declared.Event.{Event}
use Rattle.receiver_laws.specs.Whole.{burst_events}
use Rattle.station.specs.Benches.{line_of, draws_ok, turn_all, bench_on, bench_report, most_stations}
use Rattle.station.specs.declared.Station.{Station}
use Rattle.station.specs.declared.bench.BenchTurn.{BenchTurn}
use Rattle.station.proofs.SlotLaws.{line_below}
use Rattle.station.proofs.Loops.{get_d_same}
use Rattle.station.proofs.BenchCases.{Judged, refuses, turns, bench_judged, marks_kept}
use Rattle.bench_run.specs.Calls.{Moment, lines_of, events_in, at_start, next_moment, call, run}
use Rattle.bench_run.specs.BenchRuns.{draws_of, calls_of, moment_after, turns_of, line_byte, line_bytes, done_mask, mark_bytes}
use Rattle.bench_run.specs.BenchRuns.{stations_in, moment_in, turns_in, lines_after, marks_after}
use Rattle.bench_run.proofs.CallLaws.{at_most_one, draws_there, mask_below, as_many, turns_length, marks_length}
use Rattle.bench_laws.specs.Demand3.{Start, times_done, drawn_for, SentAndHeard, Claim}
use Rattle.bench_laws.specs.RunInBytes.{mark_at, times_marked, EveryPressIsMarked}
use Rattle.bench_laws.proofs.StationStates.{mark}
use Rattle.bench_laws.proofs.PartHeard.{part_next, part_events}
use Rattle.bench_laws.proofs.WholeList.{demand_3}
use Rattle.bench_laws.proofs.ExportedRun.{exported_run}

-- ---- marks as bits

mask_bit : (bs : List Bool) (i : ℕ) → done_mask bs / 2 ^ i % 2 ≡ mark (get_or bs i false)
unfolding done_mask
mask_bit [] i = ap (λ (x : ℕ). x % 2) (zero-div (2 ^ i))
mask_bit (b ∷ bs) zero = ap (λ (x : ℕ). x % 2) (div-one (mark b + 2 * done_mask bs)) ∙ omega (arith, at_most_one b)
mask_bit (b ∷ bs) (suc i) =
    let half : (mark b + 2 * done_mask bs) / 2 ≡ done_mask bs = omega (arith, at_most_one b) in
    ap (λ (x : ℕ). (mark b + 2 * done_mask bs) / 2 ^ x % 2) (omega arith)
    ∙ ap (λ (x : ℕ). x % 2) (sym (shr-shr (mark b + 2 * done_mask bs) 1 i) ∙ ap (λ (x : ℕ). x / 2 ^ i) half)
    ∙ mask_bit bs i

-- two bytes are enough for sixteen
mask_whole : (bs : List Bool) → length bs ≤ 16 → done_mask bs / 256 % 256 * 256 + done_mask bs % 256 ≡ done_mask bs
mask_whole bs few = let low : done_mask bs < 2 ^ 16 = le_trans (mask_below bs) (pow_mono few) in omega (arith, low)

-- ---- half-cycles among the bytes

taken_append : (xs ys : List ℕ) → taken (xs ++ ys) ≡ taken xs ++ taken ys
taken_append [] ys = refl
taken_append (x ∷ xs) ys = go (leb x 1) (taken_append xs ys)
  where
    go : (b : Bool) → taken (xs ++ ys) ≡ taken xs ++ taken ys
        → pick b (x ∷ taken (xs ++ ys)) (taken (xs ++ ys)) ≡ pick b (x ∷ taken xs) (taken xs) ++ taken ys
    go true e = ap (λ (l : List ℕ). x ∷ l) e
    go false e = e

-- ---- one call of the run

module _ (n : ℕ) (message : ℕ → Message) (draw : ℕ → ℕ) (stations : List Station) (S : Start most_stations n message draw stations) (draws : List ℕ) where
  abbrev moment : ℕ → Moment
  moment j = moment_after n stations draws j

  abbrev turn : ℕ → BenchTurn
  turn j = bench_on most_stations n (moment j).stations (draws_of n draws j)

  claim : (j : ℕ) → Claim most_stations n message (moment j)
  claim j = demand_3 most_stations n message draw stations S (calls_of n draws j)

  many : (j : ℕ) → length (moment j).stations ≡ n
  many j = as_many most_stations n (at_start stations) (calls_of n draws j) S.many

  data Stepped (j : ℕ) : Type 0 where
    stays : drawn_for n (draws_of n draws j) ≡ false → line_byte (turn j).answer ≡ 7 → ((i : ℕ) → get_or (turn j).done i false ≡ false)
        → moment (suc j) ≡ moment j → Stepped j
    goes : drawn_for n (draws_of n draws j) ≡ true → (h : ℕ) → h ≤ 1 → line_byte (turn j).answer ≡ h
        → moment (suc j) ≡ next_moment (moment j) (turn j) (Ok h) → Stepped j

  -- a number that a call is refused by is 7
  seven : (why : Refusal) (b : Bool) → refusal_number why ≡ pick b 0 7 → (b ≡ false) × (refusal_number why ≡ 7)
  seven why true e = absurd (omega (arith, some_number why))
  seven why false e = (refl, e)

  stepped : (j : ℕ) → Stepped j
  unfolding run calls_of call turn_all
  stepped j = go (bench_judged most_stations n (moment j).stations (draws_of n draws j)) refl
    where
      go : {o : BenchTurn} → Judged most_stations n (moment j).stations (draws_of n draws j) o → turn j ≡ o → Stepped j
      go (refuses why) e =
          let number : refusal_number why ≡ pick (drawn_for n (draws_of n draws j)) 0 7 =
          ap (λ (o : BenchTurn). (bench_report o.answer).number) (sym e) ∙ (claim j).refused (draws_of n draws j) in
          let bad = seven why (drawn_for n (draws_of n draws j)) number in
          stays bad.0 (ap (λ (o : BenchTurn). line_byte o.answer) e ∙ bad.1)
          (λ i. ap (λ (o : BenchTurn). get_or o.done i false) e ∙ get_d_same (length (moment j).stations) i false)
          (ap (λ (o : BenchTurn). next_moment (moment j) o o.answer) e)
      go (turns p m q r s) e =
          goes (rw (eq-eqb (length (draws_of n draws j)) n r) s) (line_of (moment j).stations) (line_below (moment j).stations)
          (ap (λ (o : BenchTurn). line_byte o.answer) e)
          (ap (λ (a : Result ℕ Refusal). next_moment (moment j) (turn j) a) (ap (λ (o : BenchTurn). o.answer) e))

  -- ---- the bytes up to a call

  so_far : (k j : ℕ) → j ≤ k → (rest : List BenchTurn) × (turns_of n stations draws k ≡ turns_of n stations draws j ++ rest)
  unfolding turns_of
  so_far zero zero h = ([], refl)
  so_far zero (suc j) h = absurd (omega arith)
  so_far (suc k) j h = go (ℕ_discrete j (suc k)) (λ l. so_far k j l)
    where
      go : Dec (j ≡ suc k) → (j ≤ k → (rest : List BenchTurn) × (turns_of n stations draws k ≡ turns_of n stations draws j ++ rest))
          → (rest : List BenchTurn) × (turns_of n stations draws (suc k) ≡ turns_of n stations draws j ++ rest)
      go (yes e) f = ([], sym (append-nil (turns_of n stations draws j) ∙ ap (turns_of n stations draws) e))
      go (no e) f =
          let q = f (omega arith) in (
            q.0 ++ (turn k ∷ []),
            ap (λ (l : List BenchTurn). l ++ (turn k ∷ [])) q.1 ∙ append_assoc (turns_of n stations draws j) q.0 (turn k ∷ []),
          )

  abbrev lines : ℕ → List ℕ
  lines k = line_bytes (turns_of n stations draws k)

  lines_so_far : (k j : ℕ) → j ≤ k → take j (lines k) ≡ lines j
  lines_so_far k j h =
      let q = so_far k j h in
      ap (λ (os : List BenchTurn). take j (line_bytes os)) q.1
      ∙ ap (take j) (map-append (λ (o : BenchTurn). line_byte o.answer) (turns_of n stations draws j) q.0)
      ∙ take_at (lines j) (line_bytes q.0) j (length-map (turns_of n stations draws j) _ ∙ turns_length n stations draws j)

  -- the turns around call j
  around : (k j : ℕ) → j < k → (rest : List BenchTurn) × (turns_of n stations draws k ≡ turns_of n stations draws j ++ turn j ∷ rest)
  unfolding turns_of
  around k j h = let q = so_far k (suc j) h in (q.0, q.1 ∙ append_assoc (turns_of n stations draws j) (turn j ∷ []) q.0)

  byte_at : (k j : ℕ) → j < k → get_or (lines k) j 0 ≡ line_byte (turn j).answer
  byte_at k j h =
      let q = around k j h in
      ap (λ (os : List BenchTurn). get_or (line_bytes os) j 0) q.1
      ∙ ap (λ (l : List ℕ). get_or l j 0) (map-append (λ (o : BenchTurn). line_byte o.answer) (turns_of n stations draws j) (turn j ∷ q.0))
      ∙ get_or_at (lines j) (line_byte (turn j).answer) (line_bytes q.0) 0 j (length-map (turns_of n stations draws j) _ ∙ turns_length n stations draws j)

  mark_at_lem : (k j i : ℕ) (rest : List ℕ) → j < k → mark_at (flat_map mark_bytes (turns_of n stations draws k) ++ rest) j i ≡ mark (get_or (turn j).done i false)
  unfolding flat_map
  mark_at_lem k j i rest h =
      let q = around k j h in
      let M = done_mask (turn j).done in
      let front = flat_map mark_bytes (turns_of n stations draws j) in
      let after = flat_map mark_bytes q.0 ++ rest in
      let long : length front ≡ 2 * j = marks_length (turns_of n stations draws j) ∙ ap (λ (x : ℕ). 2 * x) (turns_length n stations draws j) in
      let bytes : flat_map mark_bytes (turns_of n stations draws k) ++ rest ≡ front ++ (M / 256 % 256 ∷ M % 256 ∷ after) =
      ap (λ (os : List BenchTurn). flat_map mark_bytes os ++ rest) q.1
      ∙ ap (λ (l : List ℕ). l ++ rest) (flat_append mark_bytes (turns_of n stations draws j) (turn j ∷ q.0))
      ∙ append_assoc front (M / 256 % 256 ∷ M % 256 ∷ flat_map mark_bytes q.0) rest in
      let high : get_or (front ++ (M / 256 % 256 ∷ M % 256 ∷ after)) (2 * j) 0 ≡ M / 256 % 256 = get_or_at front _ _ 0 (2 * j) long in
      let low : get_or (front ++ (M / 256 % 256 ∷ M % 256 ∷ after)) (2 * j + 1) 0 ≡ M % 256 =
      ap (λ (x : ℕ). get_or (front ++ (M / 256 % 256 ∷ M % 256 ∷ after)) (x + 1) 0) (sym long) ∙ get_or-append-add front _ 1 0 in
      ap (λ (l : List ℕ). mark_at l j i) bytes
      ∙ ap₂ (λ (x y : ℕ). (x * 256 + y) / 2 ^ i % 2) high low
      ∙ ap (λ (x : ℕ). x / 2 ^ i % 2)
      (mask_whole (turn j).done (omega (arith, marks_kept most_stations n (moment j).stations (draws_of n draws j) (many j), S.allowed)))
      ∙ mask_bit (turn j).done i

  -- ---- what demand 3 keeps

  halves_kept : (j : ℕ) → taken (lines j) ≡ reverse (lines_of (moment j).past)
  unfolding turns_of run calls_of
  halves_kept zero = refl
  halves_kept (suc j) =
      ap taken (map-append (λ (o : BenchTurn). line_byte o.answer) (turns_of n stations draws j) (turn j ∷ []))
      ∙ taken_append (lines j) (line_byte (turn j).answer ∷ [])
      ∙ ap (λ (l : List ℕ). l ++ taken (line_byte (turn j).answer ∷ [])) (halves_kept j)
      ∙ go (stepped j)
    where
      go : Stepped j → reverse (lines_of (moment j).past) ++ taken (line_byte (turn j).answer ∷ []) ≡ reverse (lines_of (moment (suc j)).past)
      go (stays d e f q) =
          ap (λ (x : ℕ). reverse (lines_of (moment j).past) ++ taken (x ∷ [])) e
          ∙ append-nil (reverse (lines_of (moment j).past))
          ∙ ap (λ (m : Moment). reverse (lines_of m.past)) (sym q)
      go (goes d h low e q) =
          ap (λ (x : ℕ). reverse (lines_of (moment j).past) ++ taken (x ∷ [])) e
          ∙ ap (λ (b : Bool). reverse (lines_of (moment j).past) ++ pick b (h ∷ []) []) (le-leb h 1 low)
          ∙ sym (reverse-cons h (lines_of (moment j).past))
          ∙ ap (λ (m : Moment). reverse (lines_of m.past)) (sym q)

  marks_counted : (k i : ℕ) (rest : List ℕ) (j : ℕ) → j ≤ k
      → times_marked (flat_map mark_bytes (turns_of n stations draws k) ++ rest) i j ≡ times_done i (moment j).past
  unfolding run calls_of
  marks_counted k i rest zero h = refl
  marks_counted k i rest (suc j) h =
      ap₂ (λ (a b : ℕ). a + b) (mark_at_lem k j i rest h) (marks_counted k i rest j (omega arith)) ∙ go (stepped j)
    where
      go : Stepped j → mark (get_or (turn j).done i false) + times_done i (moment j).past ≡ times_done i (moment (suc j)).past
      go (stays d e f q) = ap (λ (b : Bool). mark b + times_done i (moment j).past) (f i) ∙ omega (arith, ap (λ (m : Moment). times_done i m.past) q)
      go (goes d h low e q) = ap (λ (m : Moment). times_done i m.past) (sym q)

  -- the receiver was given the half-cycles answered, from fresh
  heard_so_far : (j : ℕ)
      → ((moment j).receiver ≡ receiver_after fresh_receiver (reverse (lines_of (moment j).past)))
      × (reverse (events_in (moment j).past) ≡ events_of fresh_receiver (reverse (lines_of (moment j).past)))
  unfolding run calls_of receiver_after events_of
  heard_so_far zero = (refl, refl)
  heard_so_far (suc j) = go (stepped j) (heard_so_far j)
    where
      Heard : Moment → Type 0
      Heard m = (m.receiver ≡ receiver_after fresh_receiver (reverse (lines_of m.past)))
          × (reverse (events_in m.past) ≡ events_of fresh_receiver (reverse (lines_of m.past)))

      go : Stepped j → Heard (moment j) → Heard (moment (suc j))
      go (stays d e f q) (r, es) = subst Heard (sym q) (r, es)
      go (goes d h low e q) (r, es) =
          let before = reverse (lines_of (moment j).past) in
          let line = reverse-cons h (lines_of (moment j).past) in
          subst Heard (sym q) (
            ap (λ (x : Receiver). (step_of x h).next) r ∙ sym (part_next fresh_receiver before h) ∙ ap (receiver_after fresh_receiver) (sym line),
            reverse-cons (step_of (moment j).receiver h).event (events_in (moment j).past)
                ∙ ap₂ (λ (l : List Event) (x : Receiver). l ++ ((step_of x h).event ∷ [])) es r
                ∙ sym (part_events fresh_receiver before h)
                ∙ ap (events_of fresh_receiver) (sym line),
          )

  -- ---- a station that is marked

  -- a list, newest first, that begins with another reversed ends in it when it is oldest first
  ends_in : {A : Type 0} (xs past : List A) (k : ℕ) → take k past ≡ reverse xs → (before : List A) × (before ++ xs ≡ reverse past)
  ends_in {A} xs past k e = (
    reverse (drop k past),
    ap (λ (l : List A). reverse (drop k past) ++ l) (sym (reverse-reverse xs) ∙ ap reverse (sym e))
        ∙ sym (reverse-append (take k past) (drop k past))
        ∙ ap reverse (take-append-drop k past),
  )

  module _ (k i j : ℕ) (rest : List ℕ) (h : j < k) where
    abbrev marked : ℕ
    marked = mark_at (flat_map mark_bytes (turns_of n stations draws k) ++ rest) j i

    -- the half-cycles up to call j
    upto : taken (take (suc j) (lines k)) ≡ reverse (lines_of (moment (suc j)).past)
    upto = ap taken (lines_so_far k (suc j) h) ∙ halves_kept (suc j)

    is_marked : marked ≡ 1 → get_or (turn j).done i false ≡ true
    is_marked e = go (get_or (turn j).done i false) (sym (mark_at_lem k j i rest h) ∙ e)
      where
        go : (b : Bool) → mark b ≡ 1 → b ≡ true
        go true p = refl
        go false p = absurd (omega arith)

    pub unmarked_at : get_or (lines k) j 0 ≡ 7 → marked ≡ 0
    unmarked_at e = go (stepped j)
      where
        go : Stepped j → marked ≡ 0
        go (stays d b f q) = mark_at_lem k j i rest h ∙ ap mark (f i)
        go (goes d x low b q) = absurd (omega (arith, byte_at k j h))

    module _ (l : i < n) (e : marked ≡ 1) where
      gone_out : SentAndHeard (message i) (moment (suc j)).past
      gone_out = go (stepped j)
        where
          go : Stepped j → SentAndHeard (message i) (moment (suc j)).past
          go (stays d b f q) = absurd (false≢true (sym (f i) ∙ is_marked e))
          go (goes d x low b q) =
              let right = (subst (λ (m : Moment). Claim most_stations n message m) q (claim (suc j))).answers.0 in
              subst (λ (m : Moment). SentAndHeard (message i) m.past) (sym q) (right.done i l (is_marked e))

      pub sent_at : (before : List ℕ) × (before ++ burst_of (message i) ≡ taken (take (suc j) (lines k)))
      sent_at =
          let r = ends_in (burst_of (message i)) (lines_of (moment (suc j)).past) (burst_length (message i)) gone_out.sent in
          (r.0, r.1 ∙ sym upto)

      pub heard_at_lem : (before : List Event) × (before ++ burst_events (message i) ≡ events_of fresh_receiver (taken (take (suc j) (lines k))))
      heard_at_lem =
          let r = ends_in (burst_events (message i)) (events_in (moment (suc j)).past) (burst_length (message i)) gone_out.one in
          (r.0, r.1 ∙ (heard_so_far (suc j)).1 ∙ ap (events_of fresh_receiver) (sym upto))

  each_byte : (k j : ℕ) → j < k → (get_or (lines k) j 0 ≤ 1) ⊎ (get_or (lines k) j 0 ≡ 7)
  each_byte k j h = go (stepped j)
    where
      go : Stepped j → (get_or (lines k) j 0 ≤ 1) ⊎ (get_or (lines k) j 0 ≡ 7)
      go (stays d e f q) = inr (byte_at k j h ∙ e)
      go (goes d x low e q) = inl (subst (λ (y : ℕ). y ≤ 1) (sym (byte_at k j h ∙ e)) low)

  -- 7 exactly by the draws, where there are n
  by_draws : (k j : ℕ) → j < k → length (draws_of n draws j) ≡ n → (get_or (lines k) j 0 ≡ 7) ↔ (draws_ok (draws_of n draws j) ≡ false)
  by_draws k j h long = go (stepped j)
    where
      same : drawn_for n (draws_of n draws j) ≡ draws_ok (draws_of n draws j)
      same = rw (eq-eqb (length (draws_of n draws j)) n long)

      go : Stepped j → (get_or (lines k) j 0 ≡ 7) ↔ (draws_ok (draws_of n draws j) ≡ false)
      go (stays d e f q) = (λ x. sym same ∙ d, λ x. byte_at k j h ∙ e)
      go (goes d x low e q) = (λ y. absurd (omega (arith, byte_at k j h, e)), λ y. absurd (false≢true (sym y ∙ sym same ∙ d)))

  -- none marks another than the n
  not_marked : (k i j : ℕ) (rest : List ℕ) → n ≤ i → j < k → mark_at (flat_map mark_bytes (turns_of n stations draws k) ++ rest) j i ≡ 0
  not_marked k i j rest far h =
      let few : length (turn j).done ≤ i = omega (arith, marks_kept most_stations n (moment j).stations (draws_of n draws j) (many j)) in
      mark_at_lem k j i rest h ∙ ap mark (get_or-eq_default (turn j).done false few)

-- ---- what is lent

pub every_press_is_marked : EveryPressIsMarked
unfolding moment_in turns_in
every_press_is_marked l none =
    let E = exported_run l none in
    let n = length l.loads in
    let k = length l.lines in
    let S = E.start in
    let draw : ℕ → ℕ = λ i. get_or l.loads i 0 in
    let count : length (moment_in l).past ≡ length (taken (lines_after l)) =
    sym (ap (λ (x : List ℕ). length (taken x)) E.lines
    ∙ ap length (halves_kept n E.message draw (stations_in l) S l.draws k)
    ∙ length-reverse (lines_of (moment_in l).past)
    ∙ length-map (moment_in l).past _) in
    let times : (i : ℕ) → times_marked (marks_after l) i k ≡ times_done i (moment_in l).past =
    λ i. ap (λ (b : List ℕ). times_marked b i k) E.marks ∙ marks_counted n E.message draw (stations_in l) S l.draws k i _ k (omega arith) in
    let draws-long : (j : ℕ) → j < k → length (draws_of n l.draws j) ≡ n =
    λ j h. length-take-le n (drop (n * j) l.draws) (omega (arith, length-drop (n * j) l.draws, draws_there n j k (length l.draws) h E.drawn)) in
    record {
      message = E.message;
      says = E.says;
      bytes = ap length E.lines ∙ length-map (turns_in l) _ ∙ turns_length n (stations_in l) l.draws k;
      each = λ j h.
          subst (λ (b : List ℕ). (get_or b j 0 ≤ 1) ⊎ (get_or b j 0 ≡ 7)) (sym E.lines) (each_byte n E.message draw (stations_in l) S l.draws k j h);
      refused = λ j h.
          subst (λ (b : List ℕ). (get_or b j 0 ≡ 7) ↔ (draws_ok (draws_of n l.draws j) ≡ false)) (sym E.lines)
          (by_draws n E.message draw (stations_in l) S l.draws k j h (draws-long j h));
      others = λ i j far h. ap (λ (b : List ℕ). mark_at b j i) E.marks ∙ not_marked n E.message draw (stations_in l) S l.draws k i j _ far h;
      answer = E.answer ∙ ap Ok count;
      within = λ enough i h. times i ∙ E.claim.within (omega (arith, count)) i h;
      once = λ i h. subst (λ (x : ℕ). x ≤ 1) (sym (times i)) (E.claim.once i h);
      sent = λ i j h u e.
          let r = sent_at n E.message draw (stations_in l) S l.draws k i j _ u h (ap (λ (b : List ℕ). mark_at b j i) (sym E.marks) ∙ e) in
          (r.0, r.1 ∙ ap (λ (b : List ℕ). taken (take (suc j) b)) (sym E.lines));
      heard = λ i j h u e.
          let r = heard_at_lem n E.message draw (stations_in l) S l.draws k i j _ u h (ap (λ (b : List ℕ). mark_at b j i) (sym E.marks) ∙ e) in
          (r.0, r.1 ∙ ap (λ (b : List ℕ). events_of fresh_receiver (taken (take (suc j) b))) (sym E.lines));
      unmarked = λ i j u e.
          ap (λ (b : List ℕ). mark_at b j i) E.marks
          ∙ unmarked_at n E.message draw (stations_in l) S l.draws k i j _ u (ap (λ (b : List ℕ). get_or b j 0) (sym E.lines) ∙ e);
    }
