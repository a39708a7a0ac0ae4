-- Putting a text on a page. Assumes nothing.
use Rattle.std.specs.Prelude.{◌≡◌, ℕ, List}
use Rattle.written.specs.Places.{Put}
use Rattle.written.specs.declared.page.Page.{Page}

-- a text was put on a page, behind what was put before, and the page is still over the same bytes
pub record Puts (old : Page) (text : List ℕ) (new : Page) : Type 0 where
  pub put : Put old.bytes.now old.at text new.bytes.now new.at
  pub same_bytes : new.bytes.ghost_name ≡ old.bytes.ghost_name
