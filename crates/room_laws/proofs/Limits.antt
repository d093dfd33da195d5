-- The protected limit after every list of messages: a valid room stays valid, and of a valid shutter it is a rule.
use Rattle.shutter.proofs.ShutterLaws.{valid_within}
use Rattle.shutter_table.proofs.TableLaws.{whole_table}
use Rattle.room.specs.Routes.{room_after_all}
use Rattle.room.proofs.ApplyLaws.{valid_parts}
use Rattle.room_laws.specs.Statements.{ProtectedLimit}
use Rattle.room_laws.proofs.Carried.{all_stay}

pub protected_limit : ProtectedLimit
protected_limit ms room ok i below on =
    let v = valid_parts (room_after_all ms room) (all_stay ms room ok) in
    valid_within _ ((whole_table _ v.shutters_valid_lem).each i below) on
