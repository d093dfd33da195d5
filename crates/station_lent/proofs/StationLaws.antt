-- Laws of a station in eight bytes.
--
--     stations_read_back, bytes_read_back        StationsReadBack, BytesReadBack
--     no_station_refused                         NoStationRefused
--     ok_length, station_length                  bytes that hold a station that is not refused are eight, and so are a station's own
--     station_placed                             a station's eight bytes, put one by one
--     Owes, done_owes, refused_owes              what a routine on lent bytes owes at each return
--     load_length, load_done, load_refused       loading: how many bytes there are, and what it owes
--     send_done, send_refused                    the same of what it sends
--     turn_length, turn_done, turn_refused       the same of a half-cycle
--     bytes_follow, same_length, empty_lowest    BytesFollow, SameLength, EmptyLowest
--     answers_follow                             AnswersFollow
use Rattle.std.specs.Prelude.{Result, Ok, Err, Option, Some, None}
use mathlib.Core.Path.{◌≡◌, refl, sym, ap, subst, ◌∙◌}
use mathlib.Core.Bool.{Bool, true, false, false≢true}
use mathlib.Core.List.{List, [], ◌∷◌, ◌++◌}
use Prim.Native.Nat.{ℕ}
use native.Mathlib.Omega.{arith}
use borrow.Author.Tests.{eqb-true, eq-eqb}
use lib.Dec.{eqb}
use lib.ListN.{length, get_or, length-append}
use lib.Seq.{sets}
use Rattle.ground.specs.Choice.{pick}
use Rattle.ground.specs.Refusals.{Cause, reports, refuses, count_report, judged, number_given}
use Rattle.ground.specs.declared.Refusal.{Refusal}
use Rattle.ground.proofs.Causes.{through, passed, nothing_refused, none_stops, judged_map, judged_same, judged_holds, done_told, refused_told, lowest_given}
use Rattle.ground.proofs.Lists.{sets-whole}
use Rattle.message.specs.Messages.{message_ok}
use Rattle.message.specs.declared.Message.{Message}
use Rattle.message.specs.declared.Message.TheVariants.{Address, Function as Command, Extended}
use Rattle.wire.specs.Messages.{message_bytes, kept_in, listed}
use Rattle.wire.specs.declared.Five.{Five}
use Rattle.wire.proofs.MessageLaws.{message_length, kept_read_back}
use Rattle.station.specs.Stations.{empty_station, station_ok, loaded, load_causes, load_of, load_report, send_causes, sends_of, send_of, send_report}
use Rattle.station.specs.Stations.{held_moves, is_done, turn_causes, turn_of, turn_report}
use Rattle.station.specs.declared.Loading.{Loading}
use Rattle.station.specs.declared.Station.{Station}
use Rattle.station.specs.declared.Turn.{Turn}
use Rattle.station.specs.declared.Turned.{Turned}
use Rattle.station.specs.declared.Turned.TheVariants as turn
use Rattle.station.proofs.StateLaws.{fine_station}
use Rattle.station.proofs.TurnLaws.{held_goes, stays_station}
use Rattle.station_lent.specs.StationBytes.{no_station, station_by, station_in, held_bytes, station_bytes, empty_causes, empty_after, loaded_after, turned_after}
use Rattle.station_lent.specs.StationBytes.{done_count, loaded_answer, sent_answer, turned_answer, load_count, send_count, turn_count}
use Rattle.station_lent.specs.StationBytes.{EmptyLowest, StationsReadBack, BytesReadBack, NoStationRefused, BytesFollow, AnswersFollow, SameLength}

-- ---- read back

pub no_station_refused : NoStationRefused
unfolding station_ok
no_station_refused = refl

-- a message is read from the front of its station's bytes, and the three bytes behind it are where they were put
message_back : (m : Message) (w c p : ℕ) → message_ok m ≡ true
    → station_in (station_bytes (record { held = Some m; wait = w; count = c; place = p })) ≡ record { held = Some m; wait = w; count = c; place = p }
unfolding station_in station_bytes
message_back (Address h u) w c p ok = rw (kept_read_back.message (Address h u) ok)
message_back (Command h f) w c p ok = rw (kept_read_back.message (Command h f) ok)
message_back (Extended h u d k) w c p ok = rw (kept_read_back.message (Extended h u d k) ok)

pub stations_read_back : StationsReadBack
unfolding station_in station_bytes
stations_read_back s ok = go s.held ok
  where
    made : Option Message → Station
    made h = record { held = h; wait = s.wait; count = s.count; place = s.place }

    go : (h : Option Message) → station_ok (made h) ≡ true → station_in (station_bytes (made h)) ≡ made h
    go None t = rw kept_read_back.none
    go (Some m) t = message_back m s.wait s.count s.place (fine_station m (made (Some m)) refl t).valid

-- ---- how many bytes

pub ok_length : (s : List ℕ) → station_ok (station_in s) ≡ true → length s ≡ 8
unfolding station_in
ok_length s ok = eqb-true (length s) 8 (go (eqb (length s) 8) ok)
  where
    go : (b : Bool) → station_ok (pick b (station_by (kept_in s) s) no_station) ≡ true → b ≡ true
    go true t = refl
    go false t = absurd (false≢true (sym no_station_refused ∙ t))

station_by_lem : (s : List ℕ) → length s ≡ 8 → station_in s ≡ station_by (kept_in s) s
unfolding station_in
station_by_lem s long = rw (eq-eqb (length s) 8 long)

pub station_length : (s : Station) → length (station_bytes s) ≡ 8
unfolding station_bytes
station_length s = go s.held
  where
    go : (h : Option Message) → length (held_bytes h ++ (s.wait ∷ s.count ∷ s.place ∷ [])) ≡ 8
    go None = refl
    go (Some m) = length-append (message_bytes m) (s.wait ∷ s.count ∷ s.place ∷ []) ∙ rw (message_length m)

-- eight bytes, one by one
eight : (s : List ℕ) → length s ≡ 8
    → get_or s 0 0 ∷ get_or s 1 0 ∷ get_or s 2 0 ∷ get_or s 3 0 ∷ get_or s 4 0 ∷ get_or s 5 0 ∷ get_or s 6 0 ∷ get_or s 7 0 ∷ [] ≡ s
eight [] e = absurd (omega arith)
eight (a ∷ []) e = absurd (omega arith)
eight (a ∷ b ∷ []) e = absurd (omega arith)
eight (a ∷ b ∷ c ∷ []) e = absurd (omega arith)
eight (a ∷ b ∷ c ∷ d ∷ []) e = absurd (omega arith)
eight (a ∷ b ∷ c ∷ d ∷ f ∷ []) e = absurd (omega arith)
eight (a ∷ b ∷ c ∷ d ∷ f ∷ g ∷ []) e = absurd (omega arith)
eight (a ∷ b ∷ c ∷ d ∷ f ∷ g ∷ h ∷ []) e = absurd (omega arith)
eight (a ∷ b ∷ c ∷ d ∷ f ∷ g ∷ h ∷ i ∷ []) e = refl
eight (a ∷ b ∷ c ∷ d ∷ f ∷ g ∷ h ∷ i ∷ j ∷ s) e = absurd (omega arith)

pub bytes_read_back : BytesReadBack
unfolding station_bytes
bytes_read_back s ok = ap station_bytes is ∙ go (kept_in s) refl (sym (ap station_ok is) ∙ ok)
  where
    long : length s ≡ 8
    long = ok_length s ok

    is : station_in s ≡ station_by (kept_in s) s
    is = station_by_lem s long

    -- the last three bytes behind others
    behind : List ℕ → List ℕ
    behind l = l ++ (get_or s 5 0 ∷ get_or s 6 0 ∷ get_or s 7 0 ∷ [])

    go : (k : Result (Option Message) Refusal) → kept_in s ≡ k → station_ok (station_by k s) ≡ true → station_bytes (station_by k s) ≡ s
    go (Ok None) e t = sym (ap behind (kept_read_back.bytes_of-none _ _ _ _ _ e)) ∙ eight s long
    go (Ok (Some m)) e t = sym (ap behind (kept_read_back.bytes_of-message _ _ _ _ _ m e).1) ∙ eight s long
    go (Err why) e t = absurd (false≢true (sym no_station_refused ∙ t))

pub station_placed : (s : Station) (f : Five) (state : List ℕ) → length state ≡ 8 → listed f ≡ held_bytes s.held
    → sets state 0 (listed f ++ (s.wait ∷ s.count ∷ s.place ∷ [])) ≡ station_bytes s
unfolding station_bytes
station_placed s f state eight e =
    sets-whole (listed f ++ (s.wait ∷ s.count ∷ s.place ∷ [])) state (sym eight)
    ∙ ap (λ (l : List ℕ). l ++ (s.wait ∷ s.count ∷ s.place ∷ [])) e

-- ---- what a routine on lent bytes owes at each return: its answer, what that reports, and the bytes

module _ (cs : List Cause) (count : ℕ) (before bytes : List ℕ) where
  abbrev pub Owes : Result ℕ Refusal → List ℕ → Type 0
  Owes o after =
      (o ≡ judged cs (Ok count) Err)
      × ((count_report o ≡ judged cs (reports (count ∷ [])) refuses)
      × (after ≡ judged cs bytes (λ why. before)))

  pub done_owes : {n : ℕ} {after : List ℕ} → number_given cs ≡ 0 → n ≡ count → after ≡ bytes → Owes (Ok n) after
  done_owes none e put = (
    ap Ok e ∙ sym (nothing_refused (Ok count) Err cs none),
    (
      ap (λ (k : ℕ). reports (k ∷ [])) e ∙ sym (nothing_refused (reports (count ∷ [])) refuses cs none),
      put ∙ sym (nothing_refused bytes (λ why. before) cs none),
    ),
  )

  pub refused_owes : {A : Type 0} {o : Result ℕ Refusal} (values : List A) (why : Refusal) → o ≡ Err why → refuses why ≡ judged cs (reports values) refuses
      → Owes o before
  refused_owes values why passed e = (
    passed ∙ refused_told values cs why e (Ok count) Err,
    (ap count_report passed ∙ refused_told values cs why e (reports (count ∷ [])) refuses, refused_told values cs why e bytes (λ w. before)),
  )

-- ---- where nothing is refused, the station is in a state that there is, before and after

module _ (s : Station) where
  load_ok : (m : Message) (draw : ℕ) → number_given (load_causes s m draw) ≡ 0 → station_ok s ≡ true
  load_ok m draw none = (none_stops _ _ _ (none_stops _ _ _ none).1).0

  loading_ok : (m : Message) (draw : ℕ) → number_given (load_causes s m draw) ≡ 0 → station_ok (loaded m draw) ≡ true
  unfolding load_of
  loading_ok m draw none =
      sym (ap (λ (o : Loading). station_ok o.next) (nothing_refused _ _ (load_causes s m draw) none))
      ∙ stays_station.load s m draw (load_ok m draw none)

  turn_ok : (heard draw : ℕ) → number_given (turn_causes s heard draw) ≡ 0 → station_ok s ≡ true
  turn_ok heard draw none = (none_stops _ _ _ (none_stops _ _ _ none).1).0

  turned_ok : (heard draw : ℕ) → number_given (turn_causes s heard draw) ≡ 0 → station_ok (held_moves s.held s heard draw).next ≡ true
  unfolding turn_of
  turned_ok heard draw none =
      sym (ap (λ (o : Turn). station_ok o.next) (nothing_refused _ _ (turn_causes s heard draw) none))
      ∙ stays_station.turn s heard draw (turn_ok heard draw none)

-- ---- loading

module _ (state : List ℕ) (m : Message) (draw : ℕ) (s : Station) (is : s ≡ station_in state) (o : Loading)
    (did : (o ≡ load_of s m draw) × (load_report o.answer ≡ judged (load_causes s m draw) (reports []) refuses)) where
  abbrev pub OwesLoad : Result ℕ Refusal → List ℕ → Type 0
  OwesLoad = Owes (load_causes (station_in state) m draw) 0 state (station_bytes (loaded m draw))

  load_did : (o ≡ load_of (station_in state) m draw) × (load_report o.answer ≡ judged (load_causes (station_in state) m draw) (reports []) refuses)
  load_did = subst (λ (x : Station). (o ≡ load_of x m draw) × (load_report o.answer ≡ judged (load_causes x m draw) (reports []) refuses)) is did

  module _ (took : o.answer ≡ Ok tt) where
    load_none : number_given (load_causes (station_in state) m draw) ≡ 0
    load_none = (done_told [] (load_causes (station_in state) m draw) (sym (ap load_report took) ∙ load_did.1)).0

    pub load_length : length state ≡ 8
    load_length = ok_length state (load_ok (station_in state) m draw load_none)

    pub load_done : {after : List ℕ} → after ≡ station_bytes o.next → OwesLoad (Ok 0) after
    unfolding load_of
    load_done put =
        let next = load_did.0 ∙ nothing_refused _ _ (load_causes (station_in state) m draw) load_none in
        done_owes (load_causes (station_in state) m draw) 0 state (station_bytes (loaded m draw)) load_none refl
        (put ∙ ap (λ (x : Loading). station_bytes x.next) next)

  pub load_refused : {r : Result ℕ Refusal} (why : Refusal) → o.answer ≡ Err why → r ≡ Err why → OwesLoad r state
  load_refused why e passed = refused_owes _ 0 state _ [] why passed (sym (ap load_report e) ∙ load_did.1)

-- ---- what it sends

module _ (state : List ℕ) (s : Station) (is : s ≡ station_in state) (o : Result ℕ Refusal)
    (did : send_report o ≡ judged (send_causes s) (reports (sends_of s ∷ [])) refuses) where
  -- nothing is lent to be changed
  abbrev OwesSent : Result ℕ Refusal → List ℕ → Type 0
  OwesSent = Owes (send_causes (station_in state)) (sends_of (station_in state)) [] []

  send_did : send_report o ≡ judged (send_causes (station_in state)) (reports (sends_of (station_in state) ∷ [])) refuses
  send_did = subst (λ (x : Station). send_report o ≡ judged (send_causes x) (reports (sends_of x ∷ [])) refuses) is did

  pub send_done : (h : ℕ) → o ≡ Ok h → OwesSent (Ok h) []
  send_done h e =
      let told = done_told _ (send_causes (station_in state)) (sym (ap send_report e) ∙ send_did) in
      let half : h ≡ sends_of (station_in state) = cc told.1 in
      done_owes (send_causes (station_in state)) (sends_of (station_in state)) [] [] told.0 half refl

  pub send_refused : {r : Result ℕ Refusal} (why : Refusal) → o ≡ Err why → r ≡ Err why → OwesSent r []
  send_refused why e passed = refused_owes _ _ [] [] _ why passed (sym (ap send_report e) ∙ send_did)

-- ---- one half-cycle

module _ (state : List ℕ) (heard draw : ℕ) (s : Station) (is : s ≡ station_in state) (o : Turn)
    (did : (o ≡ turn_of s heard draw)
    × (turn_report o.answer ≡ judged (turn_causes s heard draw) (reports (is_done (held_moves s.held s heard draw).answer ∷ [])) refuses)) where
  abbrev moved : Turn
  moved = held_moves (station_in state).held (station_in state) heard draw

  abbrev pub OwesTurn : Result ℕ Refusal → List ℕ → Type 0
  OwesTurn = Owes (turn_causes (station_in state) heard draw) (done_count state heard draw) state (station_bytes moved.next)

  turn_did : (o ≡ turn_of (station_in state) heard draw)
      × (turn_report o.answer ≡ judged (turn_causes (station_in state) heard draw) (reports (is_done moved.answer ∷ [])) refuses)
  turn_did =
      subst (λ (x : Station). (o ≡ turn_of x heard draw)
      × (turn_report o.answer ≡ judged (turn_causes x heard draw) (reports (is_done (held_moves x.held x heard draw).answer ∷ [])) refuses)) is did

  module _ (t : Turned) (took : o.answer ≡ Ok t) where
    turn_told : (number_given (turn_causes (station_in state) heard draw) ≡ 0) × (is_done (Ok t) ∷ [] ≡ is_done moved.answer ∷ [])
    turn_told = done_told _ (turn_causes (station_in state) heard draw) (sym (ap turn_report took ∙ said t) ∙ turn_did.1)
      where
        said : (t : Turned) → turn_report (Ok t) ≡ reports (is_done (Ok t) ∷ [])
        said turn.Going = refl
        said turn.Done = refl

    pub turn_length : length state ≡ 8
    turn_length = ok_length state (turn_ok (station_in state) heard draw turn_told.0)

    pub turn_done : {after : List ℕ} → after ≡ station_bytes o.next → OwesTurn (Ok (pick (is_done (Ok t)) 1 0)) after
    unfolding turn_of
    turn_done put =
        let next = turn_did.0 ∙ nothing_refused _ _ (turn_causes (station_in state) heard draw) turn_told.0 in
        let told = turn_told.1 in
        let same : is_done (Ok t) ≡ is_done moved.answer = cc in
        done_owes (turn_causes (station_in state) heard draw) (done_count state heard draw) state (station_bytes moved.next) turn_told.0
        (ap (λ (b : Bool). pick b 1 0) same) (put ∙ ap (λ (x : Turn). station_bytes x.next) next)

  pub turn_refused : {r : Result ℕ Refusal} (why : Refusal) → o.answer ≡ Err why → r ≡ Err why → OwesTurn r state
  turn_refused why e passed = refused_owes _ _ state _ _ why passed (sym (ap turn_report e) ∙ turn_did.1)

-- ---- the bytes follow

follows : (state : List ℕ) (cs : List Cause) (next : Station) → (number_given cs ≡ 0 → station_ok next ≡ true)
    → station_in (judged cs (station_bytes next) (λ why. state)) ≡ judged cs next (λ why. station_in state)
follows state cs next ok =
    judged_map station_in (station_bytes next) (λ why. state) cs
    ∙ judged_same (λ why. station_in state) cs (λ none. stations_read_back next (ok none))

keeps_length : (state : List ℕ) (cs : List Cause) (next : Station) → (number_given cs ≡ 0 → length state ≡ 8)
    → length (judged cs (station_bytes next) (λ why. state)) ≡ length state
keeps_length state cs next eight =
    judged_holds (λ (l : List ℕ). length l ≡ length state) _ _ cs (λ none. station_length next ∙ sym (eight none)) (λ why. refl)

pub bytes_follow : BytesFollow
unfolding empty_after loaded_after turned_after load_of turn_of
bytes_follow = record { made_empty = begins; loaded = loads; turned = turns }
  where
    begins : (state : List ℕ) → length state ≡ 8 → station_in (empty_after state) ≡ empty_station
    begins state eight =
        follows state (empty_causes state) empty_station (λ none. stays_station.empty)
        ∙ sym (passed empty_station (λ why. station_in state) _ _ [] (eq-eqb (length state) 8 eight) (through _ _ refl))

    loads : (state : List ℕ) (m : Message) (draw : ℕ) → station_in (loaded_after state m draw) ≡ (load_of (station_in state) m draw).next
    loads state m draw =
        follows state (load_causes (station_in state) m draw) (loaded m draw) (loading_ok (station_in state) m draw)
        ∙ sym (judged_map (λ (o : Loading). o.next) _ _ (load_causes (station_in state) m draw))

    turns : (state : List ℕ) (heard draw : ℕ) → station_in (turned_after state heard draw) ≡ (turn_of (station_in state) heard draw).next
    turns state heard draw =
        follows state (turn_causes (station_in state) heard draw) _ (turned_ok (station_in state) heard draw)
        ∙ sym (judged_map (λ (o : Turn). o.next) _ _ (turn_causes (station_in state) heard draw))

pub same_length : SameLength
unfolding empty_after loaded_after turned_after
same_length = record {
  made_empty = λ state. keeps_length state (empty_causes state) _ (λ none. eqb-true (length state) 8 (none_stops _ _ _ none).0);
  loaded = λ state m draw. keeps_length state (load_causes (station_in state) m draw) _ (λ none. ok_length state (load_ok (station_in state) m draw none));
  turned = λ state heard draw. keeps_length state (turn_causes (station_in state) heard draw) _
      (λ none. ok_length state (turn_ok (station_in state) heard draw none));
}

pub empty_lowest : EmptyLowest
empty_lowest state = lowest_given (empty_causes state) refl

-- ---- what they answer

-- 1 where a half-cycle says DONE
abbrev Counted : Turn → Type 0
Counted o = turn_count o.answer ≡ Ok (pick (is_done o.answer) 1 0)

pub answers_follow : AnswersFollow
unfolding loaded_answer load_of sent_answer send_of turned_answer turn_of
answers_follow =
    record {
      loaded = λ state m draw. sym (judged_map (λ (o : Loading). load_count o.answer) _ _ (load_causes (station_in state) m draw));
      sent = λ state. sym (judged_map send_count _ _ (send_causes (station_in state)));
      turned =
          λ state heard draw.
          let s = station_in state in
          sym
          (judged_map (λ (o : Turn). turn_count o.answer) _ _ (turn_causes s heard draw)
          ∙ ap (λ (x : Result ℕ Refusal). judged (turn_causes s heard draw) x Err) (held_goes Counted (λ next. refl) (λ next. refl) s.held s heard draw));
    }
