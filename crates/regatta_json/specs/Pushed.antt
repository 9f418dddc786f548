-- What appending a text promises.
use Rattle.std.specs.Prelude.{◌≡◌, ℕ, ◌+◌, ◌<◌, ◌≤◌, List, ◌++◌, Result, length, take, vec_len}
use Rattle.std.specs.Prelude.{vec_capacity, IsOk, OnOk, OnErr}
use Rattle.std.specs.Global.{Vec}

-- the text was appended. An error leaves some first part of it, and comes only if there was no room
-- for the text; the capacity is never less
pub record Pushed {A E : Type 0} (text : List ℕ) (old new : Vec ℕ) (result : Result A E) : Type 0
  where
    pub ok : OnOk result (new.items ≡ old.items ++ text)
    pub err : OnErr result (take (vec_len old) new.items ≡ old.items)
    pub room : vec_capacity old ≤ vec_capacity new
    pub full : OnErr result (vec_capacity old < vec_len old + length text)

-- the text was appended. An error leaves the old text, and comes only if there was no room for the new
-- one; the capacity is never less
pub record Written {A E : Type 0} (text : List ℕ) (old new : Vec ℕ) (result : Result A E) : Type 0
  where
    pub ok : OnOk result (new.items ≡ old.items ++ text)
    pub err : OnErr result (new.items ≡ old.items)
    pub room : vec_capacity old ≤ vec_capacity new
    pub fits : vec_len old + length text ≤ vec_capacity old → IsOk result
