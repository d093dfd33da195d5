-- Laws of the loops over messages and draws: what one turn takes off.
--
--     read_says, say_cons                    whether messages are said
--     loads_length                           a station for each draw
--     load_answers, load_put, slots_placed   what is left to load answers, and the slots
--     loads_by_draw                          LoadsByDraw
use Rattle.std.specs.Prelude.{Result, Ok, Err, is_err, ⊤}
use mathlib.Core.Path.{◌≡◌, refl, sym, ap, ap₂, ◌∙◌}
use mathlib.Core.Bool.{Bool, true, false, not, ◌&&◌, and-eq-true_iff}
use mathlib.Core.List.{List, [], ◌∷◌, ◌++◌}
use Prim.Native.Nat.{ℕ, suc, ◌+◌, ◌-◌, ◌*◌, ◌≤◌, ◌<◌}
use native.Mathlib.Numerals.{add-one}
use native.Mathlib.Omega.{arith}
use lib.ListN.{length, get_or, set, drop, replicate, length-replicate}
use lib.Seq.{sets, sets-eq, drop-cons, drop-drop}
use Rattle.ground.specs.Choice.{pick}
use Rattle.ground.specs.Refusals.{judged}
use Rattle.ground.specs.declared.Refusal.{Refusal}
use Rattle.ground.specs.declared.Refusal.TheVariants as refusal
use Rattle.message.specs.Messages.{message_ok}
use Rattle.message.specs.declared.Message.{Message}
use Rattle.station.specs.Stations.{empty_station, draw_ok, station_ok, loaded, load_of}
use Rattle.station.specs.declared.Station.{Station}
use Rattle.station.specs.declared.Loading.{Loading}
use Rattle.station.specs.Benches.{most_stations, draws_ok}
use Rattle.wire.specs.Messages.{message_in, says_message}
use Rattle.wire.proofs.MessageLaws.{messages_read_back}
use Rattle.bench_run.specs.BenchRuns.{all_say, loading_by, loadings, else_answer, loads_answer, stations_from, LoadsByDraw}

-- five bytes further
further : (i : ℕ) (bytes : List ℕ) → drop 5 (drop (5 * i) bytes) ≡ drop (5 * (i + 1)) bytes
further i bytes =
    let place : 5 * i + 5 ≡ 5 * (i + 1) = omega arith in
    drop-drop 5 (5 * i) bytes ∙ ap (λ (k : ℕ). drop k bytes) place

pub read_says : (r : Result Message Refusal) → says_message r ≡ not (is_err r)
read_says (Ok m) = refl
read_says (Err why) = refl

pub say_cons : (k i : ℕ) (bytes : List ℕ) → i < k
    → all_say (k - i) (drop (5 * i) bytes) ≡ (says_message (message_in (drop (5 * i) bytes)) && all_say (k - (i + 1)) (drop (5 * (i + 1)) bytes))
unfolding all_say
say_cons k i bytes more =
    let left : k - i ≡ suc (k - (i + 1)) = omega arith in
    ap (λ (n : ℕ). all_say n (drop (5 * i) bytes)) left
    ∙ ap (λ (l : List ℕ). says_message (message_in (drop (5 * i) bytes)) && all_say (k - (i + 1)) l) (further i bytes)

-- ---- loading

pub loads_length : (bytes loads : List ℕ) → length (stations_from (loadings bytes loads)) ≡ length loads
unfolding loadings
loads_length bytes [] = refl
loads_length bytes (d ∷ ds) = ap suc (loads_length (drop 5 bytes) ds)

module _ (bytes loads : List ℕ) (i : ℕ) (more : i < length loads) where
  -- the loading that comes next
  abbrev pub loading_at : Loading
  loading_at = loading_by (message_in (drop (5 * i) bytes)) (get_or loads i 0)

  left_loads : loadings (drop (5 * i) bytes) (drop i loads) ≡ loading_at ∷ loadings (drop (5 * (i + 1)) bytes) (drop (i + 1) loads)
  unfolding loadings
  left_loads =
      ap (loadings (drop (5 * i) bytes)) (drop-cons loads i 0 more)
      ∙ ap₂ (λ (l : List ℕ) (k : ℕ). loading_at ∷ loadings l (drop k loads)) (further i bytes) (sym (add-one i))

  pub load_answers : (a : Result ⊤ Refusal) → loading_at.answer ≡ a
      → loads_answer (loadings (drop (5 * i) bytes) (drop i loads))
      ≡ else_answer a (loads_answer (loadings (drop (5 * (i + 1)) bytes) (drop (i + 1) loads)))
  unfolding loads_answer
  load_answers a e =
      ap loads_answer left_loads
      ∙ ap (λ (x : Result ⊤ Refusal). else_answer x (loads_answer (loadings (drop (5 * (i + 1)) bytes) (drop (i + 1) loads)))) e

  pub load_put : (slots : List Station)
      → sets (set slots i loading_at.next) (i + 1) (stations_from (loadings (drop (5 * (i + 1)) bytes) (drop (i + 1) loads)))
      ≡ sets slots i (stations_from (loadings (drop (5 * i) bytes) (drop i loads)))
  load_put slots =
      ap (λ (k : ℕ). sets (set slots i loading_at.next) k (stations_from (loadings (drop (5 * (i + 1)) bytes) (drop (i + 1) loads)))) (add-one i)
      ∙ ap (λ (os : List Loading). sets slots i (stations_from os)) (sym left_loads)

pub slots_placed : (bytes loads : List ℕ) → length loads ≤ 16
    → sets (replicate most_stations empty_station) 0 (stations_from (loadings bytes loads))
    ≡ stations_from (loadings bytes loads) ++ drop (length loads) (replicate most_stations empty_station)
slots_placed bytes loads few =
    let spare : List Station = replicate most_stations empty_station in
    let stations = stations_from (loadings bytes loads) in
    let long = loads_length bytes loads in
    let end : 0 + length stations ≡ length loads = omega arith in
    sets-eq stations spare 0 (omega (arith, length-replicate most_stations empty_station)) ∙ ap (λ (k : ℕ). stations ++ drop k spare) end

-- ---- by the draw alone

-- an empty station takes a message that there is, with a draw
load_by_draw : (m : Message) (draw : ℕ) → message_ok m ≡ true → (load_of empty_station m draw).answer ≡ pick (draw_ok draw) (Ok tt) (Err refusal.Draw)
unfolding load_of station_ok judged
load_by_draw m draw ok = rw ok (go (draw_ok draw))
  where
    took : Bool → Loading
    took b = pick b (record { answer = Ok tt; next = loaded m draw }) (record { answer = Err refusal.Draw; next = empty_station })

    go : (b : Bool) → (took b).answer ≡ pick b (Ok tt) (Err refusal.Draw)
    go true = refl
    go false = refl

loading_by-draw : (read : Result Message Refusal) (draw : ℕ) → ((m : Message) → read ≡ Ok m → message_ok m ≡ true) → says_message read ≡ true
    → (loading_by read draw).answer ≡ pick (draw_ok draw) (Ok tt) (Err refusal.Draw)
loading_by-draw (Ok m) draw valid t = load_by_draw m draw (valid m refl)
loading_by-draw (Err why) draw valid t = cc

pub loads_by_draw : LoadsByDraw
unfolding all_say loadings loads_answer draws_ok
loads_by_draw bytes [] t = refl
loads_by_draw bytes (d ∷ ds) t =
    let s = (and-eq-true_iff (says_message (message_in bytes)) (all_say (length ds) (drop 5 bytes))).0 t in
    let one = loading_by-draw (message_in bytes) d (λ m e. messages_read_back.valid_message _ _ _ _ _ m e) s.0 in
    ap₂ else_answer one (loads_by_draw (drop 5 bytes) ds s.1) ∙ go (draw_ok d) (draws_ok ds)
  where
    go : (a b : Bool) → else_answer (pick a (Ok tt) (Err refusal.Draw)) (pick b (Ok tt) (Err refusal.Draw))
        ≡ pick (a && b) (Ok tt) (Err refusal.Draw)
    go true b = refl
    go false b = refl
