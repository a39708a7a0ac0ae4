use Rattle.std.proofs.Common.{◌≡◌, ℕ, List, [], ◌++◌, Some, None, Option, IfSome, take, ap, ◌∙◌}
use Rattle.std.specs.Option.{option_map}
use Rattle.listing.proofs.read_input.Goals as goal

-- what is read of known bytes is their front
front_read : (known : Option (List ℕ)) (n : ℕ) (before after : List ℕ) → before ≡ [] → IfSome (option_map (take n) known) (λ bytes. after ≡ before ++ bytes) → IfSome known (λ bytes. after ≡ take n bytes)
front_read None n before after empty h = tt
front_read (Some bytes) n before after empty h = h ∙ ap (λ xs. xs ++ take n bytes) empty

pub returns : goal.returns
returns g c =
    front_read (g.R.Read.remaining c.args.reader) 65537 _ _ c.new-input.ensures.items (rw (c.take.ensures.inner, c.take.ensures.limit) at c.in_ok-read_to_end.ensures.bytes)
