-- What contracts see of a `Body`.
use Rattle.pim_frame.specs.Frame.{Content, hello, join_prune, other}
use Rattle.pim_frame.specs.declared.frame.Body.{Body}
use Rattle.pim_frame.specs.declared.frame.Body.TheVariants.{Hello, JoinPrune, Other}

-- The content that an opened message shows: a Hello or Join/Prune with its bytes, or its type.
abbrev pub content_of : Body → Content
content_of (Hello bytes) = hello bytes.now
content_of (JoinPrune bytes) = join_prune bytes.now
content_of (Other type) = other type
