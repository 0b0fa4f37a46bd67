-- Media types, by the extensions of files' names: those whose registrations name them (RFC 6838), or that are in use
-- where none does. Text that nothing else says of is UTF-8.
use Rattle.std.{specs.Prelude.{ℕ, List, [], ◌∷◌, bytes_eq, codes, find}, specs.Option.option_map_or}

-- extensions in lower case, and their media types
abbrev pub Types : Type 0
Types = List (List ℕ × List ℕ)

-- pages, and what they load
abbrev pub page_types : Types
page_types =
    (codes "html", codes "text/html; charset=utf-8")
    ∷ (codes "htm", codes "text/html; charset=utf-8")
    ∷ (codes "shtml", codes "text/html; charset=utf-8")
    ∷ (codes "xhtml", codes "application/xhtml+xml")
    ∷ (codes "txt", codes "text/plain; charset=utf-8")
    ∷ (codes "log", codes "text/plain; charset=utf-8")
    ∷ (codes "md", codes "text/markdown; charset=utf-8")
    ∷ (codes "css", codes "text/css; charset=utf-8")
    ∷ (codes "csv", codes "text/csv; charset=utf-8")
    ∷ (codes "js", codes "text/javascript; charset=utf-8")
    ∷ (codes "mjs", codes "text/javascript; charset=utf-8")
    ∷ (codes "vtt", codes "text/vtt; charset=utf-8")
    ∷ (codes "json", codes "application/json")
    ∷ (codes "map", codes "application/json")
    ∷ (codes "jsonld", codes "application/ld+json")
    ∷ (codes "webmanifest", codes "application/manifest+json")
    ∷ (codes "xml", codes "application/xml")
    ∷ (codes "mml", codes "application/mathml+xml")
    ∷ (codes "atom", codes "application/atom+xml")
    ∷ (codes "rss", codes "application/rss+xml")
    ∷ (codes "wasm", codes "application/wasm")
    ∷ []

-- documents
abbrev pub document_types : Types
document_types =
    (codes "pdf", codes "application/pdf")
    ∷ (codes "epub", codes "application/epub+zip")
    ∷ (codes "rtf", codes "application/rtf")
    ∷ (codes "ps", codes "application/postscript")
    ∷ (codes "eps", codes "application/postscript")
    ∷ (codes "ai", codes "application/postscript")
    ∷ (codes "doc", codes "application/msword")
    ∷ (codes "xls", codes "application/vnd.ms-excel")
    ∷ (codes "ppt", codes "application/vnd.ms-powerpoint")
    ∷ (codes "docx", codes "application/vnd.openxmlformats-officedocument.wordprocessingml.document")
    ∷ (codes "xlsx", codes "application/vnd.openxmlformats-officedocument.spreadsheetml.sheet")
    ∷ (codes "pptx", codes "application/vnd.openxmlformats-officedocument.presentationml.presentation")
    ∷ (codes "odt", codes "application/vnd.oasis.opendocument.text")
    ∷ (codes "ods", codes "application/vnd.oasis.opendocument.spreadsheet")
    ∷ (codes "odp", codes "application/vnd.oasis.opendocument.presentation")
    ∷ (codes "odg", codes "application/vnd.oasis.opendocument.graphics")
    ∷ (codes "kml", codes "application/vnd.google-earth.kml+xml")
    ∷ (codes "kmz", codes "application/vnd.google-earth.kmz")
    ∷ (codes "wml", codes "text/vnd.wap.wml; charset=utf-8")
    ∷ (codes "wmlc", codes "application/vnd.wap.wmlc")
    ∷ []

-- archives
abbrev pub archive_types : Types
archive_types =
    (codes "zip", codes "application/zip")
    ∷ (codes "gz", codes "application/gzip")
    ∷ (codes "7z", codes "application/x-7z-compressed")
    ∷ (codes "rar", codes "application/vnd.rar")
    ∷ (codes "tar", codes "application/x-tar")
    ∷ (codes "jar", codes "application/java-archive")
    ∷ (codes "war", codes "application/java-archive")
    ∷ (codes "ear", codes "application/java-archive")
    ∷ (codes "jardiff", codes "application/x-java-archive-diff")
    ∷ (codes "hqx", codes "application/mac-binhex40")
    ∷ (codes "sit", codes "application/x-stuffit")
    ∷ (codes "sea", codes "application/x-sea")
    ∷ (codes "deb", codes "application/vnd.debian.binary-package")
    ∷ (codes "rpm", codes "application/x-redhat-package-manager")
    ∷ (codes "pdb", codes "application/vnd.palm")
    ∷ (codes "prc", codes "application/vnd.palm")
    ∷ (codes "xpi", codes "application/x-xpinstall")
    ∷ []

-- programs, and what they read
abbrev pub program_types : Types
program_types =
    (codes "exe", codes "application/vnd.microsoft.portable-executable")
    ∷ (codes "dll", codes "application/vnd.microsoft.portable-executable")
    ∷ (codes "run", codes "application/x-makeself")
    ∷ (codes "pl", codes "application/x-perl")
    ∷ (codes "pm", codes "application/x-perl")
    ∷ (codes "tcl", codes "application/x-tcl")
    ∷ (codes "tk", codes "application/x-tcl")
    ∷ (codes "swf", codes "application/vnd.adobe.flash.movie")
    ∷ (codes "htc", codes "text/x-component; charset=utf-8")
    ∷ (codes "jad", codes "text/vnd.sun.j2me.app-descriptor; charset=utf-8")
    ∷ (codes "jnlp", codes "application/x-java-jnlp-file")
    ∷ (codes "cco", codes "application/x-cocoa")
    ∷ (codes "der", codes "application/x-x509-ca-cert")
    ∷ (codes "crt", codes "application/x-x509-ca-cert")
    ∷ (codes "pem", codes "application/pem-certificate-chain")
    ∷ []

-- pictures and fonts
abbrev pub picture_types : Types
picture_types =
    (codes "avif", codes "image/avif")
    ∷ (codes "bmp", codes "image/bmp")
    ∷ (codes "gif", codes "image/gif")
    ∷ (codes "ico", codes "image/vnd.microsoft.icon")
    ∷ (codes "jng", codes "image/x-jng")
    ∷ (codes "jpg", codes "image/jpeg")
    ∷ (codes "jpeg", codes "image/jpeg")
    ∷ (codes "png", codes "image/png")
    ∷ (codes "svg", codes "image/svg+xml")
    ∷ (codes "svgz", codes "image/svg+xml")
    ∷ (codes "tif", codes "image/tiff")
    ∷ (codes "tiff", codes "image/tiff")
    ∷ (codes "wbmp", codes "image/vnd.wap.wbmp")
    ∷ (codes "webp", codes "image/webp")
    ∷ (codes "eot", codes "application/vnd.ms-fontobject")
    ∷ (codes "otf", codes "font/otf")
    ∷ (codes "ttf", codes "font/ttf")
    ∷ (codes "woff", codes "font/woff")
    ∷ (codes "woff2", codes "font/woff2")
    ∷ []

-- sounds
abbrev pub sound_types : Types
sound_types =
    (codes "aac", codes "audio/aac")
    ∷ (codes "flac", codes "audio/flac")
    ∷ (codes "m4a", codes "audio/mp4")
    ∷ (codes "mid", codes "audio/midi")
    ∷ (codes "midi", codes "audio/midi")
    ∷ (codes "kar", codes "audio/midi")
    ∷ (codes "mp3", codes "audio/mpeg")
    ∷ (codes "oga", codes "audio/ogg")
    ∷ (codes "ogg", codes "audio/ogg")
    ∷ (codes "ra", codes "audio/x-realaudio")
    ∷ (codes "wav", codes "audio/wav")
    ∷ []

-- films, and lists of what is played
abbrev pub film_types : Types
film_types =
    (codes "3gpp", codes "video/3gpp")
    ∷ (codes "3gp", codes "video/3gpp")
    ∷ (codes "asf", codes "application/vnd.ms-asf")
    ∷ (codes "asx", codes "video/x-ms-asf")
    ∷ (codes "avi", codes "video/x-msvideo")
    ∷ (codes "flv", codes "video/x-flv")
    ∷ (codes "m3u8", codes "application/vnd.apple.mpegurl")
    ∷ (codes "mng", codes "video/x-mng")
    ∷ (codes "mov", codes "video/quicktime")
    ∷ (codes "mp4", codes "video/mp4")
    ∷ (codes "m4v", codes "video/mp4")
    ∷ (codes "mpeg", codes "video/mpeg")
    ∷ (codes "mpg", codes "video/mpeg")
    ∷ (codes "ogv", codes "video/ogg")
    ∷ (codes "ts", codes "video/mp2t")
    ∷ (codes "webm", codes "video/webm")
    ∷ (codes "wmv", codes "video/x-ms-wmv")
    ∷ (codes "xspf", codes "application/xspf+xml")
    ∷ []

-- that of an extension by these types, or another one
abbrev pub type_by : Types → List ℕ → List ℕ → List ℕ
type_by types other extension = option_map_or (λ row. row.1) (find (λ row. bytes_eq extension row.0) types) other

unfoldable pub film_type_of : List ℕ → List ℕ
film_type_of extension = type_by film_types (codes "application/octet-stream") extension

unfoldable pub sound_type_of : List ℕ → List ℕ
sound_type_of extension = type_by sound_types (film_type_of extension) extension

unfoldable pub picture_type_of : List ℕ → List ℕ
picture_type_of extension = type_by picture_types (sound_type_of extension) extension

unfoldable pub program_type_of : List ℕ → List ℕ
program_type_of extension = type_by program_types (picture_type_of extension) extension

unfoldable pub archive_type_of : List ℕ → List ℕ
archive_type_of extension = type_by archive_types (program_type_of extension) extension

unfoldable pub document_type_of : List ℕ → List ℕ
document_type_of extension = type_by document_types (archive_type_of extension) extension

-- that of an extension by all of them, or any bytes' (RFC 2046, section 4.5.1)
abbrev pub media_type_of : List ℕ → List ℕ
media_type_of extension = type_by page_types (document_type_of extension) extension
