-- What a station sends is 0 or 1, and when that is a fault.
use Rattle.std.specs.Prelude.{Option, Some, None}
use mathlib.Core.Path.{◌≡◌, refl}
use mathlib.Core.Bool.{Bool, true, false, ◌&&◌}
use Prim.Native.Nat.{ℕ, zero, suc, ◌≤◌, ◌<◌}
use native.Mathlib.Nat.{le_of_suc-le-suc}
use native.Mathlib.Omega.{arith}
use lib.Dec.{eqb, eqb-suc-zero}
use lib.ListN.{get_or}
use Rattle.ground.specs.Choice.{pick}
use Rattle.message.specs.declared.Message.{Message}
use Rattle.burst.specs.Frames.{burst_of}
use Rattle.burst.proofs.FrameLaws.{burst_halves}
use Rattle.station.specs.Stations.{is_empty, held_sends, sends_of}
use Rattle.station.specs.declared.Station.{Station}

and-false : (b : Bool) → (b && false) ≡ false
and-false true = refl
and-false false = refl

held_below : (h : Option Message) (wait count place : ℕ) → held_sends h wait count place ≤ 1
held_below None wait count place = omega arith
held_below (Some m) wait count place = go (eqb count wait)
  where
    go : (b : Bool) → pick b (get_or (burst_of m) place 0) 0 ≤ 1
    go true = le_of_suc-le-suc (burst_halves m place)
    go false = omega arith

pub sends_below : (s : Station) → sends_of s ≤ 1
unfolding sends_of
sends_below s = held_below s.held s.wait s.count s.place

-- sending 1 and hearing 0 is sending more than was heard
pub no_fault : (sent heard : ℕ) → sent ≤ heard → (eqb sent 1 && eqb heard 0) ≡ false
no_fault sent zero h = let none : sent ≡ 0 = omega arith in rw none
no_fault sent (suc heard) h = rw (eqb-suc-zero heard) (and-false (eqb sent 1))

pub fault : (sent heard : ℕ) → sent ≤ 1 → heard < sent → (eqb sent 1 && eqb heard 0) ≡ true
fault sent heard h l =
    let one : sent ≡ 1 = omega arith in
    let zero : heard ≡ 0 = omega arith in
    rw (one, zero)

pub fault_told : (s : Station) {sent : ℕ} (heard : ℕ) → sends_of s ≡ sent → heard < sent → (eqb (sends_of s) 1 && eqb heard 0) ≡ true
fault_told s heard e l = fault (sends_of s) heard (sends_below s) (omega arith)

-- whether a station is empty, by what it holds
pub is_empty_lem : {h : Option Message} → h ≡ None → is_empty h ≡ true
is_empty_lem e = rw e

pub not_empty : {h : Option Message} {m : Message} → h ≡ Some m → is_empty h ≡ false
not_empty e = rw e
