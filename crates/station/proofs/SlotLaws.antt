-- Laws of a bench's list of stations.
--
--     ok_in, draw_in, line_in      what is so of all is so of one
--     ok_at, draw_at, sent_at      the same of the first n
--     ready_at                     what a station's move asks
--     line_at, line_below          no station sends more than the line has, and the line is 0 or 1
--     three_numbers                a slot whose numbers are written one after the other
--     length_moved, length-done    there are as many stations after a half-cycle, and as many marks
--     or_max                       of two half-cycles the one or the other is the greater of them
--     refused_in_slots             a refused call leaves all slots
--     bench_promise                what a call's answer reports
use Rattle.std.specs.Prelude.{Err, None}
use mathlib.Core.Path.{◌≡◌, refl, sym, ap, ap₂, subst, fun_ext, ◌∙◌}
use mathlib.Core.Bool.{Bool, true, false, and-eq-true_iff}
use mathlib.Core.List.{List, [], ◌∷◌, ◌++◌, map, zip_with}
use Prim.Native.Nat.{ℕ, zero, suc, ◌+◌, ◌≤◌, ◌<◌, max}
use native.Mathlib.Nat.{not-suc-le-zero, le_of_suc-le-suc, suc_inj, zero-add, suc-add}
use native.Mathlib.Omega.{arith}
use lib.Bits.{bit_or}
use lib.ListN.{length, take, drop, get_or, set, replicate, length-append, length-take, length-map, take-append-drop, get_or-map}
use lib.Seq.{get_or-take, length-take-le, get_or-set_same, set-set, lt-length-set}
use Rattle.ground.specs.Refusals.{Report, reports, refuses, Cause, judged}
use Rattle.ground.specs.declared.Refusal.{Refusal}
use Rattle.ground.proofs.Causes.{judged_map}
use Rattle.message.proofs.Tables.{get_d_any}
use Rattle.station.specs.declared.Station.{Station}
use Rattle.station.specs.Stations.{station_ok, draw_ok, sends_of}
use Rattle.station.proofs.SendLaws.{sends_below}
use Rattle.station.proofs.TurnLaws.{Movable}
use Rattle.station.specs.Benches.{line_of, move_all, done_all, stations_ok, draws_ok, turn_all, bench_refused, bench_on, slot_causes, beside, bench_of}
use Rattle.station.specs.Benches.{bench_report}
use Rattle.station.specs.declared.bench.BenchTurn.{BenchTurn}

-- ---- one of many

pub ok_in : (ss : List Station) (i : ℕ) (e : Station) → stations_ok ss ≡ true → i < length ss → station_ok (get_or ss i e) ≡ true
unfolding stations_ok
ok_in [] i e t h = absurd (not-suc-le-zero h)
ok_in (s ∷ ss) zero e t h = ((and-eq-true_iff (station_ok s) (stations_ok ss)).0 t).0
ok_in (s ∷ ss) (suc i) e t h = ok_in ss i e ((and-eq-true_iff (station_ok s) (stations_ok ss)).0 t).1 (le_of_suc-le-suc h)

pub draw_in : (ds : List ℕ) (i : ℕ) → draws_ok ds ≡ true → i < length ds → draw_ok (get_or ds i 0) ≡ true
unfolding draws_ok
draw_in [] i t h = absurd (not-suc-le-zero h)
draw_in (d ∷ ds) zero t h = ((and-eq-true_iff (draw_ok d) (draws_ok ds)).0 t).0
draw_in (d ∷ ds) (suc i) t h = draw_in ds i ((and-eq-true_iff (draw_ok d) (draws_ok ds)).0 t).1 (le_of_suc-le-suc h)

pub line_in : (ss : List Station) (i : ℕ) (e : Station) → i < length ss → sends_of (get_or ss i e) ≤ line_of ss
unfolding line_of
line_in [] i e h = absurd (not-suc-le-zero h)
line_in (s ∷ ss) zero e h = omega arith
line_in (s ∷ ss) (suc i) e h = let below = line_in ss i e (le_of_suc-le-suc h) in omega arith

pub line_below : (ss : List Station) → line_of ss ≤ 1
unfolding line_of
line_below [] = omega arith
line_below (s ∷ ss) = let rest = line_below ss in omega (arith, sends_below s)

-- the same of the first n
module _ (n : ℕ) (slots : List Station) (few : n ≤ length slots) (i : ℕ) (h : i < n) (e : Station) where
  in_first : i < length (take n slots)
  in_first = rw (length-take-le n slots few) h

  pub ok_at : stations_ok (take n slots) ≡ true → station_ok (get_or slots i e) ≡ true
  ok_at t = rw (get_or-take n slots i e h) at (ok_in (take n slots) i e t in_first)

  pub line_at : sends_of (get_or slots i e) ≤ line_of (take n slots)
  line_at = rw (get_or-take n slots i e h) at (line_in (take n slots) i e in_first)

  pub sent_at : (sent : List ℕ) → take n sent ≡ map sends_of (take n slots) → sends_of (get_or slots i e) ≡ get_or sent i 0
  sent_at sent kept =
      let whole : length (take n sent) ≡ n = ap length kept ∙ length-map (take n slots) sends_of ∙ length-take-le n slots few in
      ap sends_of (sym (get_or-take n slots i e h))
      ∙ sym (get_or-map sends_of (take n slots) i e)
      ∙ ap (λ (xs : List ℕ). get_or xs i (sends_of e)) (sym kept)
      ∙ get_or-take n sent i (sends_of e) h
      ∙ get_d_any sent i (sends_of e) 0 (omega (arith, length-take n sent))

pub draw_at : (n : ℕ) (draws : List ℕ) → n ≤ length draws → (i : ℕ) → i < n → draws_ok (take n draws) ≡ true → draw_ok (get_or draws i 0) ≡ true
draw_at n draws enough i h t =
    rw (get_or-take n draws i 0 h) at (draw_in (take n draws) i t (rw (length-take-le n draws enough) h))

-- a bench that has judged its stations and draws, and has heard the line, may move each of them
pub ready_at : (n : ℕ) (slots : List Station) (draws sent : List ℕ) (line : ℕ) → n ≤ length slots → n ≤ length draws
    → stations_ok (take n slots) ≡ true → draws_ok (take n draws) ≡ true → line ≡ line_of (take n slots)
    → take n sent ≡ map sends_of (take n slots) → (i : ℕ) → i < n → (e : Station)
    → Movable (get_or slots i e) (get_or sent i 0) line (get_or draws i 0)
ready_at n slots draws sent line few enough ok drawn heard kept i h e =
    let is = sent_at n slots few i h e sent kept in
    record {
      half = subst (λ (x : ℕ). x ≤ 1) (sym heard) (line_below (take n slots));
      ok = ok_at n slots few i h e ok;
      drawn = draw_at n draws enough i h drawn;
      is = is;
      kept = omega (arith, line_at n slots few i h e);
    }

-- ---- one station's numbers in its slot

-- what an array of stations is taken to have past its end
abbrev pub zeros : Station
zeros = record { held = None; wait = 0; count = 0; place = 0 }

-- a slot that is written by what stands in it, after it was written before
again : (ss : List Station) (i : ℕ) (e s : Station) (f : Station → Station) → i < length ss → set (set ss i s) i (f (get_or (set ss i s) i e)) ≡ set ss i (f s)
again ss i e s f h =
    ap (λ (x : Station). set (set ss i s) i (f x)) (get_or-set_same ss i s e h) ∙ set-set ss i s (f s)

abbrev with_wait : ℕ → Station → Station
with_wait w s = record { held = s.held; wait = w; count = s.count; place = s.place }

abbrev with_count : ℕ → Station → Station
with_count c s = record { held = s.held; wait = s.wait; count = c; place = s.place }

abbrev with_place : ℕ → Station → Station
with_place p s = record { held = s.held; wait = s.wait; count = s.count; place = p }

-- one number after the other
pub three_numbers : (ss : List Station) (i : ℕ) (e : Station) (w c p : ℕ) → i < length ss
    → let one = set ss i (with_wait w (get_or ss i e)) in
    let two = set one i (with_count c (get_or one i e)) in
    set two i (with_place p (get_or two i e)) ≡ set ss i (record { held = (get_or ss i e).held; wait = w; count = c; place = p })
three_numbers ss i e w c p h =
    let s = with_wait w (get_or ss i e) in
    again (set ss i s) i e (with_count c (get_or (set ss i s) i e)) (with_place p) (lt-length-set ss i s h)
    ∙ again ss i e s (λ (x : Station). with_place p (with_count c x)) h

-- ---- as many

module _ (line : ℕ) where
  pub length_moved : (ss : List Station) (ds : List ℕ) → length ds ≡ length ss → length (move_all line ss ds) ≡ length ss
  unfolding move_all zip_with
  length_moved [] ds e = refl
  length_moved (s ∷ ss) [] e = absurd (omega arith)
  length_moved (s ∷ ss) (d ∷ ds) e = ap suc (length_moved ss ds (suc_inj e))

  pub length-done : (ss : List Station) (ds : List ℕ) → length ds ≡ length ss → length (done_all line ss ds) ≡ length ss
  unfolding done_all zip_with
  length-done [] ds e = refl
  length-done (s ∷ ss) [] e = absurd (omega arith)
  length-done (s ∷ ss) (d ∷ ds) e = ap suc (length-done ss ds (suc_inj e))

-- ---- two half-cycles

pub or_max : (a b : ℕ) → a ≤ 1 → b ≤ 1 → bit_or a b ≡ max a b
or_max zero zero h k = refl
or_max zero (suc zero) h k = refl
or_max (suc zero) zero h k = refl
or_max (suc zero) (suc zero) h k = refl
or_max (suc (suc a)) b h k = absurd (omega arith)
or_max zero (suc (suc b)) h k = absurd (omega arith)
or_max (suc zero) (suc (suc b)) h k = absurd (omega arith)

-- ---- what a call's answer reports

-- a refused call leaves all slots
falses : (k n : ℕ) → replicate k false ++ replicate n false ≡ replicate (k + n) false
falses zero n = ap (λ (x : ℕ). replicate x false) (sym (zero-add n))
falses (suc k) n = ap (λ (l : List Bool). false ∷ l) (falses k n) ∙ ap (λ (x : ℕ). replicate x false) (sym (suc-add k n))

pub refused_in_slots : (n : ℕ) (slots : List Station) (why : Refusal) → beside (drop n slots) (bench_refused (take n slots) why) ≡ bench_refused slots why
refused_in_slots n slots why =
    let all = sym (length-append (take n slots) (drop n slots)) ∙ ap length (take-append-drop n slots) in
    ap₂ {C = BenchTurn} (λ (d : List Bool) (s : List Station). record { answer = Err why; done = d; slots = s })
    (falses (length (take n slots)) (length (drop n slots)) ∙ ap (λ (x : ℕ). replicate x false) all) (take-append-drop n slots)

pub bench_promise : {o : BenchTurn} (n : ℕ) (slots : List Station) (draws : List ℕ)
    → o ≡ judged (slot_causes n slots draws) (beside (drop n slots) (turn_all (take n slots) (take n draws))) (bench_refused slots)
    → (o ≡ bench_of n slots draws) × (bench_report o.answer ≡ judged (slot_causes n slots draws) (reports (line_of (take n slots) ∷ [])) refuses)
unfolding bench_of bench_on turn_all
bench_promise n slots draws e =
    let report : BenchTurn → Report ℕ = λ o. bench_report o.answer in
    let turn : BenchTurn = turn_all (take n slots) (take n draws) in
    let cs : List Cause = slot_causes n slots draws in
    let same = fun_ext {f = λ why. beside (drop n slots) (bench_refused (take n slots) why)} {g = bench_refused slots} (refused_in_slots n slots) in (
      e
          ∙ ap (judged cs (beside (drop n slots) turn)) (sym same)
          ∙ sym (judged_map (beside (drop n slots)) turn (bench_refused (take n slots)) cs),
      ap report e ∙ judged_map report _ _ cs,
    )
