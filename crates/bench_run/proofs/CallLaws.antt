-- Laws of calls one after the other.
--
--     at_most_one, mask_below, mask_cons, mask_beside       a mark; the number of which stations are DONE
--     call_stations, call_counts               what a call leaves
--     refused_call_leaves, as_many             RefusedCallLeaves; as many stations after any calls
--     Calling, calling_first, calling_next     where a run of calls stands: lines and marks so far, the stations, the count
--     draws_there, draws_left, calling_last    the next call's draws are there; what all calls leave
use Rattle.std.specs.Prelude.{Result, Ok, Err}
use mathlib.Core.Path.{◌≡◌, refl, sym, ap, ap₂, subst, ◌∙◌}
use mathlib.Core.Bool.{Bool, true, false}
use mathlib.Core.List.{List, [], ◌∷◌, ◌++◌, map-append, flat_map, append-nil}
use Prim.Native.Nat.{ℕ, zero, suc, ◌+◌, ◌-◌, ◌*◌, ◌/◌, ◌%◌, ◌^◌, ◌≤◌, ◌<◌}
use native.Mathlib.Nat.{pow-suc, le_trans, add-zero, mul-suc, mul-zero, mul-le-mul_left}
use native.Mathlib.Numerals.{add-one}
use native.Mathlib.Omega.{arith}
use lib.Pow.{pow_mono}
use lib.ListN.{length, get_or, set, take, drop, replicate, length-append, length-drop, length-set, length-map, drop_of_length-le, take-append-drop}
use lib.Seq.{drop-cons, set_at, append_snoc, length-take-le}
use Rattle.ground.specs.Choice.{pick}
use Rattle.ground.specs.declared.Refusal.{Refusal}
use Rattle.ground.proofs.Lists.{flat_append, flat_length}
use Rattle.station.specs.Benches.{turn_all, bench_on, most_stations, bench_of, beside}
use Rattle.station.specs.declared.Station.{Station}
use Rattle.station.specs.declared.bench.BenchTurn.{BenchTurn}
use Rattle.station.proofs.BenchCases.{Judged, refuses, turns, bench_judged, length-kept, reads_the_first}
use Rattle.bench_run.specs.Calls.{Moment, at_start, next_moment, call, run, RefusedCallLeaves}
use Rattle.bench_run.specs.BenchRuns.{draws_of, calls_of, moment_after, turns_of, line_byte, line_bytes, counts_as, done_mask, mark_bytes}

-- ---- the mask

pub at_most_one : (b : Bool) → pick {A = ℕ} b 1 0 ≤ 1
at_most_one true = omega arith
at_most_one false = omega arith

pub mask_below : (bs : List Bool) → done_mask bs < 2 ^ length bs
unfolding done_mask
mask_below [] = omega arith
mask_below (b ∷ bs) = rw (pow-suc 2 (length bs)) (omega (arith, mask_below bs, at_most_one b))

-- one more station in front: the highest of sixteen bits is still free
pub mask_cons : (bs : List Bool) (left mask bit : ℕ) (d : Bool) → 0 < left → left ≤ length bs → length bs ≡ 16 → mask ≡ done_mask (drop left bs)
    → bit ≡ pick (get_or bs (left - 1) d) 1 0 → mask % 32768 * 2 + bit ≡ done_mask (drop (left - 1) bs)
unfolding done_mask
mask_cons bs left mask bit d some within long e one =
    let next : suc (left - 1) ≡ left = omega arith in
    let value : done_mask (drop (left - 1) bs) ≡ pick (get_or bs (left - 1) d) 1 0 + 2 * done_mask (drop left bs) =
    ap done_mask (drop-cons bs (left - 1) d (omega arith) ∙ ap (λ (k : ℕ). get_or bs (left - 1) d ∷ drop k bs) next) in
    let short : length (drop left bs) ≤ 15 = omega (arith, length-drop left bs) in
    let low : done_mask (drop left bs) < 2 ^ 15 = le_trans (mask_below (drop left bs)) (pow_mono short) in
    omega (arith, value, low)

-- more stations that are not DONE change nothing
pub mask_beside : (bs : List Bool) (k : ℕ) → done_mask (bs ++ replicate k false) ≡ done_mask bs
unfolding done_mask
mask_beside [] zero = refl
mask_beside [] (suc k) = omega (arith, mask_beside [] k)
mask_beside (b ∷ bs) k = ap (λ (x : ℕ). pick b 1 0 + 2 * x) (mask_beside bs k)

-- ---- one call

module _ (most n : ℕ) (now : Moment) (draws : List ℕ) where
  abbrev turn : BenchTurn
  turn = bench_on most n now.stations draws

  -- a call leaves the stations of its turn,
  pub call_stations : (call most n now draws).stations ≡ turn.slots
  unfolding call
  call_stations = go turn turn.answer
    where
      go : (o : BenchTurn) (a : Result ℕ Refusal) → (next_moment now o a).stations ≡ o.slots
      go o (Ok h) = refl
      go o (Err why) = refl

  -- and one answer more where it was not refused
  pub call_counts : length (call most n now draws).past ≡ length now.past + counts_as turn.answer
  unfolding call
  call_counts = go turn turn.answer
    where
      go : (o : BenchTurn) (a : Result ℕ Refusal) → length (next_moment now o a).past ≡ length now.past + counts_as a
      go o (Ok h) = sym (add-one (length now.past))
      go o (Err why) = sym (add-zero (length now.past))

  -- a call that is refused leaves all
  refused_leaves : {o : BenchTurn} → Judged most n now.stations draws o → (why : Refusal) → o.answer ≡ Err why → next_moment now o o.answer ≡ now
  unfolding turn_all
  refused_leaves (refuses w) why e = refl
  refused_leaves (turns p m q r t) why e = cc

pub refused_call_leaves : RefusedCallLeaves
unfolding call
refused_call_leaves most n now draws why e = refused_leaves most n now draws (bench_judged most n now.stations draws) why e

-- as many stations after any calls
pub as_many : (most n : ℕ) (now : Moment) (calls : List (List ℕ)) → length now.stations ≡ n → length (run most n now calls).stations ≡ n
unfolding run
as_many most n now [] e = e
as_many most n now (draws ∷ calls) e =
    ap length (call_stations most n (run most n now calls) draws)
    ∙ length-kept most n (run most n now calls).stations draws (as_many most n now calls e)

-- ---- lists that grow at their end

-- one byte more behind those that were put
put_next : (xs l : List ℕ) (j x : ℕ) → length xs ≡ j → j < length l → set (xs ++ drop j l) j x ≡ xs ++ (x ∷ []) ++ drop (j + 1) l
put_next xs l j x e h =
    ap (λ (t : List ℕ). set (xs ++ t) j x) (drop-cons l j 0 h)
    ∙ set_at xs (get_or l j 0) (drop (suc j) l) x j e
    ∙ sym (append_snoc xs x (drop (suc j) l))
    ∙ ap (λ (k : ℕ). xs ++ (x ∷ []) ++ drop k l) (sym (add-one j))

pub marks_length : (os : List BenchTurn) → length (flat_map mark_bytes os) ≡ 2 * length os
marks_length os = flat_length mark_bytes 2 os (λ o. refl)

pub turns_length : (n : ℕ) (stations : List Station) (draws : List ℕ) (k : ℕ) → length (turns_of n stations draws k) ≡ k
unfolding turns_of
turns_length n stations draws zero = refl
turns_length n stations draws (suc k) =
    length-append (turns_of n stations draws k) _ ∙ add-one (length (turns_of n stations draws k)) ∙ ap suc (turns_length n stations draws k)

-- ---- calls one after the other

-- of k calls each has its draws
pub draws_there : (n j k draws : ℕ) → j < k → draws ≡ n * k → n * j + n ≤ draws
draws_there n j k draws more whole =
    let next : n * suc j ≡ n * j + n = mul-suc n j in
    let upto : n * suc j ≤ n * k = mul-le-mul_left n more in
    omega arith

-- after j calls of the stations in the first n slots, with others beyond
pub record Calling (n : ℕ) (stations beyond : List Station) (draws lines marks linesNow marksNow : List ℕ) (current : List Station)
    (count at j : ℕ) : Type 0 where
  pub most : n ≤ 16
  pub many : length stations ≡ n
  pub whole : length draws ≡ n * length lines
  pub room : 2 * length lines ≤ length marks
  pub within : j ≤ length lines
  pub lines_long : length linesNow ≡ length lines
  pub marks_long : length marksNow ≡ length marks
  pub few : count ≤ j
  pub place : at ≡ n * j
  pub standing : current ≡ (moment_after n stations draws j).stations ++ beyond
  pub counting : count ≡ length (moment_after n stations draws j).past
  pub lining : linesNow ≡ line_bytes (turns_of n stations draws j) ++ drop j lines
  pub marking : marksNow ≡ flat_map mark_bytes (turns_of n stations draws j) ++ drop (2 * j) marks

pub calling_first : (n : ℕ) (slots : List Station) (draws lines marks : List ℕ) → n ≤ length slots → n ≤ 16 → length draws ≡ n * length lines
    → 2 * length lines ≤ length marks → Calling n (take n slots) (drop n slots) draws lines marks lines marks slots 0 0 0
unfolding run calls_of turns_of flat_map
calling_first n slots draws lines marks few most whole room = record {
  most = most;
  many = length-take-le n slots few;
  whole = whole;
  room = room;
  within = omega arith;
  lines_long = refl;
  marks_long = refl;
  few = omega arith;
  place = sym (mul-zero n);
  standing = sym (take-append-drop n slots);
  counting = refl;
  lining = refl;
  marking = refl;
}

module _ {n : ℕ} {stations beyond : List Station} {draws lines marks linesNow marksNow : List ℕ} {current : List Station} {count at j : ℕ}
    (g : Calling n stations beyond draws lines marks linesNow marksNow current count at j) where
  abbrev sofar : List BenchTurn
  sofar = turns_of n stations draws j

  pub calling_last : length lines ≤ j
      → (count ≡ length (moment_after n stations draws (length lines)).past)
      × ((linesNow ≡ line_bytes (turns_of n stations draws (length lines)))
      × (marksNow ≡ flat_map mark_bytes (turns_of n stations draws (length lines)) ++ drop (2 * length lines) marks))
  calling_last end =
      let all : j ≡ length lines = omega (arith, g.within) in (
        g.counting ∙ ap (λ (k : ℕ). length (moment_after n stations draws k).past) all,
        (
          g.lining
              ∙ ap (λ (l : List ℕ). line_bytes sofar ++ l) (drop_of_length-le lines end)
              ∙ append-nil (line_bytes sofar)
              ∙ ap (λ (k : ℕ). line_bytes (turns_of n stations draws k)) all,
          g.marking ∙ ap (λ (k : ℕ). flat_map mark_bytes (turns_of n stations draws k) ++ drop (2 * k) marks) all,
        ),
      )

  module _ (more : j < length lines) where
    -- the next call's draws are there
    pub draws_left : at + n ≤ length draws
    draws_left = omega (arith, g.place, draws_there n j (length lines) (length draws) more g.whole)

    module _ (o : BenchTurn) (own : List ℕ) (is : o ≡ bench_of n current own) (same : take n own ≡ take n (drop at draws)) where
      -- the call of the stations alone
      abbrev core : BenchTurn
      core = bench_on most_stations n (moment_after n stations draws j).stations (draws_of n draws j)

      own_draws : take n own ≡ draws_of n draws j
      own_draws = same ∙ ap (λ (k : ℕ). take n (drop k draws)) g.place

      turn_is : o ≡ beside beyond core
      turn_is =
          is
          ∙ ap (λ (s : List Station). bench_of n s own) g.standing
          ∙ reads_the_first n (moment_after n stations draws j).stations beyond own (as_many most_stations n (at_start stations) (calls_of n draws j) g.many)
          ∙ ap (λ (d : List ℕ). beside beyond (bench_on most_stations n (moment_after n stations draws j).stations d)) own_draws

      answer_is : o.answer ≡ core.answer
      answer_is = ap (λ (t : BenchTurn). t.answer) turn_is

      mask_is : done_mask o.done ≡ done_mask core.done
      mask_is = ap (λ (t : BenchTurn). done_mask t.done) turn_is ∙ mask_beside core.done (length beyond)

      lined : {x : ℕ} → x ≡ line_byte o.answer → line_bytes (turns_of n stations draws (suc j)) ≡ line_bytes sofar ++ (x ∷ [])
      unfolding turns_of
      lined e =
          map-append (λ (t : BenchTurn). line_byte t.answer) sofar (core ∷ [])
          ∙ ap (λ (y : ℕ). line_bytes sofar ++ (y ∷ [])) (sym (e ∙ ap line_byte answer_is))

      marked : {m : ℕ} → m ≡ done_mask o.done
          → flat_map mark_bytes (turns_of n stations draws (suc j)) ≡ flat_map mark_bytes sofar ++ (m / 256 % 256 ∷ []) ++ (m % 256 ∷ [])
      unfolding flat_map turns_of
      marked {m} e =
          flat_append mark_bytes sofar (core ∷ [])
          ∙ ap (λ (y : ℕ). flat_map mark_bytes sofar ++ (y / 256 % 256 ∷ y % 256 ∷ [])) (sym (e ∙ mask_is))
          ∙ sym (append_snoc (flat_map mark_bytes sofar) (m / 256 % 256) (m % 256 ∷ []))

      pub calling_next : {x m k : ℕ} → x ≡ line_byte o.answer → m ≡ done_mask o.done → (k ≡ counts_as o.answer) × (k ≤ 1)
          → Calling n stations beyond draws lines marks
          (set linesNow j x) (set (set marksNow (2 * j) (m / 256 % 256)) (2 * j + 1) (m % 256)) o.slots (count + k) (at + n) (j + 1)
      unfolding run calls_of
      calling_next {x} {m} {k} ex em ek =
          let now = moment_after n stations draws j in
          let hi = m / 256 % 256 in
          let lo = m % 256 in
          let before = flat_map mark_bytes sofar in
          let each = turns_length n stations draws j in
          let long = marks_length sofar in
          let room = g.room in
          let two : 2 * j + 1 + 1 ≡ 2 * suc j = omega arith in
          let linesNext = set linesNow j x in
          let marksNext = set (set marksNow (2 * j) hi) (2 * j + 1) lo in
          subst (λ (i : ℕ). Calling n stations beyond draws lines marks linesNext marksNext o.slots (count + k) (at + n) i) (sym (add-one j))
          (record {
            most = g.most;
            many = g.many;
            whole = g.whole;
            room = room;
            within = more;
            lines_long = length-set linesNow j x ∙ g.lines_long;
            marks_long = length-set (set marksNow (2 * j) hi) (2 * j + 1) lo ∙ length-set marksNow (2 * j) hi ∙ g.marks_long;
            few = omega (arith, g.few, ek.1);
            place = ap (λ (p : ℕ). p + n) g.place ∙ sym (mul-suc n j);
            standing =
                ap (λ (t : BenchTurn). t.slots) turn_is
                ∙ ap (λ (ss : List Station). ss ++ beyond) (sym (call_stations most_stations n now (draws_of n draws j)));
            counting =
                ap₂ (λ (a b : ℕ). a + b) g.counting (ek.0 ∙ ap counts_as answer_is)
                ∙ sym (call_counts most_stations n now (draws_of n draws j));
            lining =
                ap (λ (l : List ℕ). set l j x) g.lining
                ∙ put_next (line_bytes sofar) lines j x (length-map sofar _ ∙ each) more
                ∙ ap₂ (λ (l : List ℕ) (i : ℕ). l ++ drop i lines) (sym (lined ex)) (add-one j);
            marking =
                ap (λ (l : List ℕ). set (set l (2 * j) hi) (2 * j + 1) lo) g.marking
                ∙ ap (λ (l : List ℕ). set l (2 * j + 1) lo) (put_next before marks (2 * j) hi (omega arith) (omega arith))
                ∙ put_next (before ++ (hi ∷ [])) marks (2 * j + 1) lo (length-append before (hi ∷ []) ∙ omega arith) (omega arith)
                ∙ ap₂ (λ (l : List ℕ) (i : ℕ). l ++ drop i marks) (sym (marked em)) two;
          })
