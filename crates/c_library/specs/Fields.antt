-- Which numbers the lines of a field read.
use Rattle.std.{specs.Prelude.{ℕ, List, ◌==◌}, specs.List.before_first}
use Rattle.http_header.specs.FieldValue.{FieldValue}
use Rattle.headers.{specs.ContentLength.content_length_reads, specs.ContentType.ReadsType, specs.HeaderLaws.ReadsBy}
use Rattle.headers.{specs.Lines.Line, specs.MediaType.semicolon, specs.Shapes.{only_date, only_number}}

-- the only line is a number
abbrev pub reads_number : List Line → ℕ → Type 0
reads_number = ReadsBy (only_number {V = ℕ} (λ number. number))

-- the only line is a date: the second since the start of 1970
abbrev pub reads_date : List Line → ℕ → Type 0
reads_date = ReadsBy (only_date {V = ℕ} (λ second. second))

-- each line is the same number
abbrev pub reads_length : List Line → ℕ → Type 0
reads_length lines length = content_length_reads lines (record { 0 = length })

-- the first line is a media type, whose canonical text is the value's
abbrev pub reads_media : List Line → FieldValue → Type 0
reads_media lines value = ReadsType lines value.bytes

-- type and subtype of a canonical text: what stands before the first semicolon, as a token has none
abbrev pub essence : List ℕ → List ℕ
essence media_type = before_first (λ byte. byte == semicolon) media_type
