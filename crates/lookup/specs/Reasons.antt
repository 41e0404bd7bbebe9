-- How a look-up ends (demand 1: "with an answer or a numbered refusal").
use Rattle.std.specs.Prelude.{ℕ, Option, Some, None}
use Rattle.lookup.specs.declared.Found.{Found}
use Rattle.lookup.specs.declared.Found.TheVariants.{InCpu, InParent}

-- a block that does not read as properties: "the walk's 6, 7 or 9"
pub data BlockFault : ℕ → Type 0 where
  token : BlockFault 6
  name : BlockFault 7
  repeated : BlockFault 9

-- where the property is, and the reason beside it: "0 when it is found, else the reason"
pub data LookupEnds : Option Found → ℕ → Type 0 where
  in_cpu : {from to : ℕ} → LookupEnds (Some (InCpu from to)) 0
  in_parent : {from to : ℕ} → LookupEnds (Some (InParent from to)) 0
  not_there : LookupEnds None 10
  faulty : {n : ℕ} → BlockFault n → LookupEnds None n
