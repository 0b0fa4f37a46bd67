-- Reads of the bytes of a file.
use Rattle.std.proofs.Common.{◌≡◌, ℕ, ◌-◌, ◌≤◌, List, ◌++◌, length, min, take, drop, arith, ap, sym, ◌∙◌, IfOk, Result}
use Rattle.std.proofs.{Common.{Ok, Err, take_all}, Math.Nat.min-le_left, lemmas.List.{length-append, length-drop}}
use Rattle.std.{proofs.lemmas.List.{length-take-le, take-append-le}, specs.Io.ReadsAtMost}
use Rattle.server_service.specs.{File.{Reads, gives_at}, declared.source.Source.{Source, TheVariants.{Kept, Opened}}}

-- so many bytes of a content were read from a place on into a buffer
module _ (content old new : List ℕ) (start count : ℕ) (counted : count ≡ min (length content - start) (length old))
    (copied : new ≡ take count (drop start content) ++ drop count old) where
  length_read : length (take count (drop start content)) ≡ count
  length_read = length-take-le count (drop start content)
      (omega (arith, counted, min-le_left (length content - start) (length old), length-drop start content))

  read : take count new ≡ take count (drop start content)
  read = ap (take count) copied
      ∙ take-append-le count (take count (drop start content)) (drop count old) (omega (arith, length_read))
      ∙ take_all count (take count (drop start content)) (omega (arith, length_read))

  read_len : count ≡ length (take count new)
  read_len = sym length_read ∙ ap length (sym read)

  within : count ≤ length new
  within = omega (
    arith,
    length_read,
    ap length copied ∙ length-append (take count (drop start content)) (drop count old),
  )

-- the buffer has what was read
pub reads_at_most : {E : Type 0} (source : Source) (start : ℕ) (old new : List ℕ) (result : Result ℕ E)
    → Reads source start old new result → ReadsAtMost result new
reads_at_most (Kept kept) start old new (Ok count) reads = (
  within kept.content old new start count reads.0 reads.1,
  read_len kept.content old new start count reads.0 reads.1,
)
reads_at_most (Kept kept) start old new (Err error) reads = absurd reads
reads_at_most (Opened opened) start old new result reads = reads

-- it occurs in the file at that place
pub reads_give : {E : Type 0} (source : Source) (start : ℕ) (old new : List ℕ) (result : Result ℕ E)
    → Reads source start old new result → IfOk result (λ count. gives_at source start (take count new))
reads_give (Kept kept) start old new (Ok count) reads = read kept.content old new start count reads.0 reads.1
    ∙ ap (λ (n : ℕ). take n (drop start kept.content)) (read_len kept.content old new start count reads.0 reads.1)
reads_give (Kept kept) start old new (Err error) reads = absurd reads
reads_give (Opened opened) start old new (Ok count) reads = tt
reads_give (Opened opened) start old new (Err error) reads = tt
