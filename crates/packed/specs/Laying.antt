-- What contracts see of a buffer, and of what is put into it.
use Rattle.std.specs.Prelude.{◌≡◌, ℕ, ◌+◌, ◌≤◌, List, ◌++◌, length, Result, OnOk}

-- its bytes, and how many it may have before memory is asked for
pub record Laid : Type 0 where
  pub items : List ℕ
  pub capacity : ℕ

-- these bytes, so many, were put at the end; there may be as many as before
pub record Grows (bytes : List ℕ) (count : ℕ) (old new : Laid) : Type 0 where
  pub items : new.items ≡ old.items ++ bytes
  pub few : length new.items ≡ length old.items + count
  pub capacity : old.capacity ≤ new.capacity

-- these bytes, at most so many, were put at the end
pub record Puts (bytes : List ℕ) (most : ℕ) (old new : Laid) : Type 0 where
  pub packed : new.items ≡ old.items ++ bytes
  pub few : length new.items ≤ length old.items + most
  pub room : old.capacity ≤ new.capacity

-- the same of the bytes of a value, of which this is so
pub record PutsValue (bytes : List ℕ) (most : ℕ) (IsStored : Type 0) (old new : Laid) : Type 0 where
  pub packed : new.items ≡ old.items ++ bytes
  pub stored : IsStored
  pub few : length new.items ≤ length old.items + most
  pub room : old.capacity ≤ new.capacity

-- where there was memory, these bytes of a value were put at the end
pub record PutsIfOk {A E : Type 0} (bytes : List ℕ) (IsStored : Type 0) (old new : Laid) (result : Result A E) : Type 0 where
  pub packed : OnOk result (new.items ≡ old.items ++ bytes)
  pub stored : OnOk result IsStored
