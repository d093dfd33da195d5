-- What the private routines of a shutter table promise: which motions leave the bytes of the lifestyles, so that they need not be stored.
use Rattle.std.specs.Prelude.{Bool, true, false}
use Rattle.plan.specs.declared.Motion.{Motion}
use Rattle.plan.specs.declared.Motion.TheVariants.{SelfTest, OpenProtected, Limit, OpenUnprotected, OpenHouse, OpenAll}
use Rattle.plan.specs.declared.Motion.TheVariants.{Include, Begin, Exclude, ExcludeAll, CloseHouse, CloseAll}

abbrev pub keeps_lifestyles : Motion → Bool
keeps_lifestyles (OpenProtected u x) = true
keeps_lifestyles (Limit u x) = true
keeps_lifestyles (OpenUnprotected u x) = true
keeps_lifestyles OpenHouse = true
keeps_lifestyles OpenAll = true
keeps_lifestyles (Include u l x) = false
keeps_lifestyles (Begin l) = true
keeps_lifestyles (Exclude u l) = false
keeps_lifestyles ExcludeAll = false
keeps_lifestyles CloseHouse = true
keeps_lifestyles CloseAll = true
keeps_lifestyles SelfTest = true
