use Rattle.std.specs.Prelude.{Result, Ok, ⊤}
use mathlib.Core.Path.{◌≡◌, ap, ◌∙◌, sym}
use mathlib.Core.List.{List}
use Prim.Native.Nat.{ℕ, ◌+◌, ◌*◌}
use lib.ListN.{get_or, set, drop, replicate, length-set, drop_of_length-le}
use lib.Seq.{sets}
use Rattle.ground.specs.declared.Refusal.{Refusal}
use Rattle.ground.proofs.Passed.{passed_on}
use Rattle.message.specs.declared.Message.{Message}
use Rattle.station.specs.Stations.{empty_station, load_of}
use Rattle.station.specs.declared.Station.{Station}
use Rattle.station.specs.declared.Loading.{Loading}
use Rattle.station.specs.Benches.{most_stations}
use Rattle.wire.specs.Messages.{message_in}
use Rattle.bench_run.specs.BenchRuns.{loading_by, loadings, loads_answer, stations_from}
use Rattle.bench_run.proofs.LoadLaws.{load_answers, load_put, slots_placed}
use Rattle.bench_run.proofs.load_all.Goals as goal

-- the loading of this turn
this : (bytes loads : List ℕ) (i : ℕ) (m : Message) (spare : Station) (o : Loading) → message_in (drop (5 * i) bytes) ≡ Ok m → spare ≡ empty_station
    → o ≡ load_of spare m (get_or loads i 0) → loading_by (message_in (drop (5 * i) bytes)) (get_or loads i 0) ≡ o
this bytes loads i m spare o read is did =
    let draw = get_or loads i 0 in
    ap (λ (r : Result Message Refusal). loading_by r draw) read ∙ ap (λ (s : Station). load_of s m draw) (sym is) ∙ sym did

pub returns-in_err-m-clause-refused : goal.returns-in_err-m-clause-refused
returns-in_err-m-clause-refused c =
    let a = c.args in
    let now = c.loop-i in
    let answer : Result Message Refusal → Result ⊤ Refusal = λ r. (loading_by r (get_or a.loads.now now.i 0)).answer in
    let stops = ap answer (sym c.message_at.ensures ∙ c.in_err-m.was) in
    rw (passed_on _ c.from_residual.ensures.1) (sym now.invariant.1 ∙ load_answers a.messages.now a.loads.now now.i c.loop-i-test.true _ stops)

pub returns-in_err-loading-clause-refused : goal.returns-in_err-loading-clause-refused
returns-in_err-loading-clause-refused c =
    let a = c.args in
    let now = c.loop-i in
    let one = this a.messages.now a.loads.now now.i c.in_ok-m.m _ _ (sym c.message_at.ensures ∙ c.in_ok-m.was) c.empty-spare.ensures
    c.load-loading.ensures.answer in
    let stops = ap (λ (o : Loading). o.answer) one ∙ c.in_err-loading.was in
    rw (passed_on _ c.from_residual-in_err-loading.ensures.1)
    (sym now.invariant.1 ∙ load_answers a.messages.now a.loads.now now.i c.loop-i-test.true _ stops)

pub loop-i-preserved : goal.loop-i-preserved
loop-i-preserved c =
    let now = c.loop-i in
    let bytes = c.args.messages.now in
    let loads = c.args.loads.now in
    let left = stations_from (loadings (drop (5 * (now.i + 1)) bytes) (drop (now.i + 1) loads)) in
    let one = this bytes loads now.i c.in_ok-m.m _ _ (sym c.message_at.ensures ∙ c.in_ok-m.was) c.empty-spare.ensures c.load-loading.ensures.answer in
    let next = ap (λ (o : Loading). o.next) (sym one) in
    let goes = ap (λ (o : Loading). o.answer) one ∙ c.in_ok-loading.was in (
      length-set now.slots now.i _ ∙ now.invariant.0,
      sym (load_answers bytes loads now.i c.loop-i-test.true (Ok tt) goes) ∙ now.invariant.1,
      ap (λ (x : Station). sets (set now.slots now.i x) (now.i + 1) left) next
          ∙ load_put bytes loads now.i c.loop-i-test.true now.slots
          ∙ now.invariant.2,
    )

pub returns-clause-loaded : goal.returns-clause-loaded
unfolding loadings loads_answer
returns-clause-loaded c =
    let now = c.loop-i in
    let bytes = c.args.messages.now in
    let loads = c.args.loads.now in
    let none = sym (drop_of_length-le loads c.loop-i-test.false) in (
      sym (ap (λ (l : List ℕ). loads_answer (loadings (drop (5 * now.i) bytes) l)) none ∙ now.invariant.1),
      ap (λ (l : List ℕ). sets now.slots now.i (stations_from (loadings (drop (5 * now.i) bytes) l))) none
          ∙ now.invariant.2
          ∙ ap (λ (x : Station). sets (replicate most_stations x) 0 (stations_from (loadings bytes loads))) c.empty-spare.ensures
          ∙ slots_placed bytes loads c.requires.0,
    )
